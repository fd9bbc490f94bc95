pub mod ArcAsWithoutLaws
pub mod ArcSees
pub mod AsWithoutLaws
pub mod BesideLaws
pub mod LimitM
pub mod SeesLaws
pub mod Unlimited
pub mod UntilLaws

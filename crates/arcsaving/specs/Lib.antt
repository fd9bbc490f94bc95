-- what the contracts cite
pub mod Given
-- a save in turn
pub mod SaveLaws

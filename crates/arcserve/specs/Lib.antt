-- what a call of a D-ARC box leaves in lent bytes
pub mod ArcCalls

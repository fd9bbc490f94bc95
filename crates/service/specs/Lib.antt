-- what each call leaves in the lent bytes
pub mod Left
pub mod LeftWarm
-- a call reads what the call before it wrote
pub mod Carried
pub mod CarriedWarm
-- a whole list of C calls from an opening: each is the paper's, and demand 3 holds of the list
pub mod Listed
-- what is read of an exam question's counts
pub mod Scored

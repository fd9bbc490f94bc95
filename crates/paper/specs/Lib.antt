-- What a reader must believe, in this order: rows found by a key, the cache and its calls, worked states, blocks and fingerprints in bytes,
-- lent memory and refusals, reports, worked refusals and reports, the machines compared with, demand 3. (`All` is in KeyedLaws.)
pub mod Keyed
pub mod Cache
pub mod Batch
pub mod Worked
pub mod Engine
pub mod Lent
pub mod Reports
pub mod BatchLent
pub mod Refused
pub mod BatchWorked
pub mod Reported
pub mod Machines
pub mod Demand3
-- the theorem: demand 3 of every list; what refused and served calls leave; that the premise can be met
pub mod Demand3Laws
pub mod RefusalLaws
pub mod CallLaws
-- what a flush of at most k rows counts, and what it leaves dirty
pub mod Partly
-- what the definitions and the claims mean, by name and by example; a list of reads alone; what a write back leaves on the disk
pub mod Claims
-- lemmas
pub mod KeyedLaws
pub mod Events
pub mod Sound
pub mod Faithful
pub mod PlainDisk
pub mod Order
pub mod Quiet
pub mod RowBytes
pub mod SoundTests
pub mod LentLaws
pub mod BatchLaws
pub mod BatchLentLaws
pub mod Index
pub mod Layout

-- `hash::fingerprint::last_chunk` meets its contract: the bytes stored are the definition's.
-- Assumes nothing.
use Rattle.hash.specs.Sha256.{bytes64}
use Rattle.hash.specs.LastChunk.{last_chunk}
use Rattle.hash.proofs.fingerprint.last_chunk.Goals as goal

pub returns : goal.returns
unfolding last_chunk bytes64
returns c = rw (c.copy_from_slice.ensures.after, c.to_be_bytes.ensures)

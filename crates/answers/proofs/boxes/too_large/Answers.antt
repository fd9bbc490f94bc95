-- The products are taken of numbers below 2 ^ 32. Assumes nothing.
use native.Mathlib.Omega.{arith}
use mir.Facts.{Fits-lit}
use Rattle.block.specs.Laws.{product-fits}
use Rattle.answers.proofs.boxes.too_large.Goals as goal

pub overflow_mul-b : goal.overflow_mul-b
overflow_mul-b c = product-fits 4294967295 4294967295 _ _ (omega arith) (omega arith) (Fits-lit tt)

pub overflow_mul-b-2 : goal.overflow_mul-b-2
overflow_mul-b-2 c = product-fits 4294967295 4294967295 _ _ (omega arith) (omega arith) (Fits-lit tt)

-- The call of the policy, with a block of one byte repeated. Assumes nothing.
use mathlib.Core.Path.{ap}
use mathlib.Core.List.{List}
use Prim.Native.Nat.{ℕ}
use Rattle.policy.specs.Contract.{ask_of}
use Rattle.answers.proofs.Doing.{call-done, block-filled}
use Rattle.answers.proofs.call.write.Goals as goal

pub returns : goal.returns
returns c =
    let a = c.args in
    let r = call-done c.write.result a.b _ _ _ _ _ _ _ _ c.write.ensures (ap (λ (l : List ℕ). ask_of a.kind a.a.0 l 0) (block-filled a.b.size 4096 a.x c.requires)) in
    record { box_record_value = r.0; blocks_after = r.1 }

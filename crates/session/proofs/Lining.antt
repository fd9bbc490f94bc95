-- What a line leaves in the memory, from what it did in the box and in the output. By the parts of equal records.
use Rattle.std.proofs.Common.{◌≡◌, Option, ℕ, List, [], length, sym, refl, ap, ◌∙◌, ap₂, zero-add, ne_eqb}
use Rattle.block.specs.Blocks.{splice}
use Rattle.counters.specs.declared.Counters as Code
use Rattle.lines.specs.declared.Command.{Command}
use Rattle.paper.specs.Cache.{Numbers, Counters}
use Rattle.paper.specs.Lent.{Lent, refused}
use Rattle.parts.specs.declared.BoxRecord.{BoxRecord}
use Rattle.parts.specs.Rep.{numbers_of}
use Rattle.refusal.specs.declared.Refusal.{Refusal}
use Rattle.refusal.specs.Numbers.{code}
use Rattle.refusal.specs.Numbers as Refusals
use Rattle.refusals.specs.Given.{counters_of}
use Rattle.print.specs.Put.{Put}
use Rattle.print.specs.Texts.{answer_text}
use Rattle.answers.specs.Replay.{box_refusal, box_numbers, started}
use Rattle.session.specs.declared.Stage.{Stage}
use Rattle.session.specs.declared.Stage.TheVariants.{Open, Over}
use Rattle.session.specs.Bytewise.{State, first_line}
use Rattle.answers.specs.Done.{record_of}
use Rattle.session.specs.Memory.{Buffers, Held, held, over, Memory, FedMemory, code_counters, stored}

pub line-done : (M : Memory) (stage : Stage) (number : ℕ) (x : BoxRecord) (k : Code.Counters) (N : Numbers) (t : Lent) (text : List ℕ) (B : Buffers) (out : List ℕ) (r : ℕ)
    → numbers_of x ≡ N → held x.held (counters_of k) B ≡ over t M.buffers → Put 0 text M.out r out
    → record { memory = record { session = record { stage = stage; kept = 0; number = number; box_record = x; counters = k }; line = M.line; buffers = B; out = out }; filled = r }
    ≡ stored M (record { state = record { stage = stage; kept = []; number = number; numbers = N; lent = t }; text = text })
unfolding stored over splice
line-done M stage number x k N t text B out r n h p =
    let made : Numbers → ℕ → Counters → Buffers → List ℕ → ℕ → FedMemory =
    λ N n q B o f. record { memory = record { session = record { stage = stage; kept = 0; number = number; box_record = record_of N n; counters = code_counters q }; line = M.line; buffers = B; out = o }; filled = f } in
    ap (λ y. made y x.held (counters_of k) B out r) n
    ∙ ap (λ (y : Held). made N y.n y.counters y.buffers out r) h
    ∙ ap₂ (made N t.n t.counters (over t M.buffers).buffers) p.1 (p.0 ∙ zero-add (length text))

-- line 1 refused, and not
pub refused-is : (s : State) (c : Option Command) (r : Refusal) → code r ≡ box_refusal c
    → record { state = record { stage = Over; kept = []; number = s.number; numbers = s.numbers; lent = s.lent }; text = answer_text 0 c (refused (code r)) } ≡ first_line s c
unfolding first_line
refused-is s c r e = rw (sym e, ne_eqb (code r) 0 (Refusals.refused r)) refl

pub begun-is : (s : State) (c : Option Command) → box_refusal c ≡ 0
    → record { state = record { stage = Open; kept = []; number = 1; numbers = box_numbers c; lent = started (box_numbers c) }; text = [] } ≡ first_line s c
unfolding first_line
begun-is s c e = rw e refl

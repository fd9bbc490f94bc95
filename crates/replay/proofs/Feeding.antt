-- What a byte, and the end of the input, leave in the memory. By the parts of equal records, and the laws of `splice`.
use mathlib.Core.Path.{◌≡◌, refl, sym, ap, ap₂, ◌∙◌, subst}
use mathlib.Core.Bool.{true, false, cond}
use mathlib.Core.List.{List, [], ◌∷◌, ◌++◌, append_assoc}
use Prim.Native.Nat.{ℕ, suc, ◌+◌, ◌≤◌, ◌<◌}
use native.Mathlib.Nat.{zero-add}
use native.Mathlib.Omega.{arith}
use lib.Dec.{eqb}
use lib.ListN.{length, take, drop, set, length-append}
use lib.Seq.{length-take-le, set_split}
use borrow.Author.Tests.{eq-eqb, ne_eqb, lt-ltb, le-ltb}
use Rattle.block.specs.Blocks.{splice}
use Rattle.lines.specs.Lines.{parsed}
use Rattle.refusals.specs.Given.{counters_of}
use Rattle.print.specs.Put.{Put}
use Rattle.print.specs.Texts.{counters_text}
use Rattle.session.specs.Bytewise.{stage_number, State, quiet, keep, first_line, later_line, end_line, last_line, at_end}
use Rattle.session.specs.contracts.Stage.{the_type}
use denote.Enum.Bare.{sameb}
use Rattle.session.specs.declared.Stage.{Stage}
use Rattle.session.specs.declared.Stage.TheVariants.{Before, Open, Over}
use Rattle.session.specs.Memory.{Buffers, Held, Memory, FedMemory, state_in, stored}
use Rattle.session.specs.declared.Session.{Session}
use Rattle.block.specs.Laws.{splice-next}
use Rattle.session.specs.BufferLaws.{splice-first, over-same}

-- a session that keeps k bytes
abbrev pub keeping : Session → ℕ → Session
keeping s k = record { stage = s.stage; kept = k; number = s.number; box_record = s.box_record; counters = s.counters }

-- a memory with other kept bytes, written over its line
kept-is : (M : Memory) (k : ℕ) (l line : List ℕ) → k ≡ length l → line ≡ splice 0 l M.line
    → record { memory = record { session = keeping M.session k; line = line; buffers = M.buffers; out = M.out }; filled = 0 }
    ≡ stored M (quiet (record { stage = M.session.stage; kept = l; number = M.session.number; numbers = (state_in M).numbers; lent = (state_in M).lent }))
unfolding stored state_in splice
kept-is M k l line e i =
    let made : ℕ → List ℕ → Buffers → FedMemory = λ k n B. record { memory = record { session = keeping M.session k; line = n; buffers = B; out = M.out }; filled = 0 } in
    let b = M.session.box_record in
    let B = M.buffers in
    ap₂ (λ k n. made k n B) e i ∙ ap (λ (h : Held). made (length l) (splice 0 l M.line) h.buffers) (over-same b (counters_of M.session.counters) B.disk B.flash B.addresses B.blocks)

pub quiet_same : (M : Memory) → M.session.kept ≤ length M.line → record { memory = M; filled = 0 } ≡ stored M (quiet (state_in M))
unfolding state_in
quiet_same M h = kept-is M M.session.kept (take M.session.kept M.line) M.line (sym (length-take-le M.session.kept M.line h)) (sym (splice-first M.session.kept M.line))

one_more : (k : ℕ) (l : List ℕ) (x : ℕ) → k < length l → set l k x ≡ splice 0 (take k l ++ (x ∷ [])) l
unfolding splice
one_more k l x h =
    let n : length (take k l ++ (x ∷ [])) ≡ suc k = length-append (take k l) (x ∷ []) ∙ ap (λ j. j + 1) (length-take-le k l (omega arith)) ∙ omega arith in
    set_split l k x h ∙ sym (ap (λ j. take k l ++ (x ∷ []) ++ drop j l) (zero-add (length (take k l ++ (x ∷ []))) ∙ n) ∙ append_assoc (take k l) (x ∷ []) (drop (suc k) l))

pub kept_more : (M : Memory) (x : ℕ) → length M.line ≡ 33 → M.session.kept < 33
    → record { memory = record { session = keeping M.session (M.session.kept + 1); line = set M.line M.session.kept x; buffers = M.buffers; out = M.out }; filled = 0 } ≡ stored M (quiet (keep x (state_in M)))
unfolding state_in keep
kept_more M x l h =
    let k = M.session.kept in
    let n : length (take k M.line) ≡ k = length-take-le k M.line (omega arith) in
    rw (n, lt-ltb k 33 h) (kept-is M (k + 1) (take k M.line ++ (x ∷ [])) (set M.line k x) (sym (length-append (take k M.line) (x ∷ []) ∙ ap (λ j. j + 1) n)) (one_more k M.line x (omega arith)))

pub kept_full : (M : Memory) (x : ℕ) → length M.line ≡ 33 → 33 ≤ M.session.kept → M.session.kept ≤ 33 → record { memory = M; filled = 0 } ≡ stored M (quiet (keep x (state_in M)))
unfolding state_in keep
kept_full M x l h g = rw (length-take-le M.session.kept M.line (omega arith), le-ltb M.session.kept 33 h) (quiet_same M (omega arith))

-- the end of a line, by the stage
pub end-first : (s : State) → s.stage ≡ Before → first_line s (parsed s.kept) ≡ end_line s
unfolding end_line
end-first s e = rw e refl

pub end_later : (s : State) → s.stage ≡ Open → later_line s (parsed s.kept) ≡ end_line s
unfolding end_line
end_later s e = rw e refl

pub end-over : (s : State) → s.stage ≡ Over → quiet s ≡ end_line s
unfolding end_line
end-over s e = rw e refl

-- the last line, by what is kept
pub last-first : (s : State) → eqb (stage_number s.stage) 0 ≡ true → end_line s ≡ last_line s
unfolding last_line
last-first s e = rw e refl

-- what the code's `==` says of a stage, by its number
pub is-before : (g : Stage) → eqb (stage_number g) 0 ≡ sameb the_type g Before
is-before Before = refl
is-before Open = refl
is-before Over = refl

pub is-open : (g : Stage) → eqb (stage_number g) 1 ≡ sameb the_type g Open
is-open Before = refl
is-open Open = refl
is-open Over = refl

pub last_none : (s : State) → eqb (stage_number s.stage) 0 ≡ false → length s.kept ≡ 0 → quiet s ≡ last_line s
unfolding last_line
last_none s n e = rw (n, eq-eqb (length s.kept) 0 e) refl

pub last_some : (s : State) → eqb (stage_number s.stage) 0 ≡ false → (length s.kept ≡ 0 → ⊥) → end_line s ≡ last_line s
unfolding last_line
last_some s n m = rw (n, ne_eqb (length s.kept) 0 m) refl

-- the counters after it
abbrev pub tail_of : Session → List ℕ
tail_of s = cond (eqb (stage_number s.stage) 1) (counters_text (counters_of s.counters)) []

pub end_is : (M : Memory) (f : FedMemory) (s : Session) (n : ℕ) (out : List ℕ) → f ≡ stored M (last_line (state_in M)) → s ≡ f.memory.session → Put f.filled (tail_of f.memory.session) f.memory.out n out
    → record { memory = record { session = s; line = f.memory.line; buffers = f.memory.buffers; out = out }; filled = n } ≡ stored M (at_end (state_in M))
unfolding stored at_end
end_is M f s n out e i p =
    let o = last_line (state_in M) in
    let g = stored M o in
    let tail = cond (eqb (stage_number o.state.stage) 1) (counters_text o.state.lent.counters) [] in
    let q : Put (length o.text) tail (splice 0 o.text M.out) n out = subst (λ (h : FedMemory). Put h.filled (tail_of h.memory.session) h.memory.out n out) e p in
    ap {B = FedMemory} (λ x. record { memory = record { session = x; line = f.memory.line; buffers = f.memory.buffers; out = out }; filled = n }) i
    ∙ ap {B = FedMemory} (λ (h : FedMemory). record { memory = record { session = h.memory.session; line = h.memory.line; buffers = h.memory.buffers; out = out }; filled = n }) e
    ∙ ap₂ {C = FedMemory} (λ u v. record { memory = record { session = g.memory.session; line = g.memory.line; buffers = g.memory.buffers; out = u }; filled = v })
    (q.1 ∙ ap (λ k. splice k tail (splice 0 o.text M.out)) (sym (zero-add (length o.text))) ∙ splice-next 0 o.text tail M.out (omega arith))
    (q.0 ∙ sym (length-append o.text tail))

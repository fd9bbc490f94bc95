-- The replay: from the whole input to the whole output. Assumes nothing.
use Rattle.std.specs.Prelude.{◌≡◌, Option, Some, None, false, ◌||◌, cond, List, [], ◌∷◌, ◌++◌, ℕ, zero, suc, ◌+◌, ◌*◌, ◌%◌, ◌^◌, eqb, ltb, replicate}
use Rattle.paper.specs.Cache.{Numbers, no_counts}
use Rattle.paper.specs.Lent.{Lent, Ask, Answer, refused, unfit, limit_outside, fresh, call}
use Rattle.lines.specs.Lines.{lines, parsed}
use Rattle.lines.specs.declared.Command.{Command}
use Rattle.lines.specs.declared.Command.TheVariants.{Box, Read, Look, Flush, Through, Back, Invalidate}
use Rattle.print.specs.Texts.{answer_text, counters_text}

-- ---- the box line

-- U6: "replay's label is all zeros"; U8: "a limit t from 1 to m (m in replay)"
abbrev pub numbers : (B P m d : ℕ) → Numbers
numbers B P m d = record { B = B; P = P; m = m; d = d; label = replicate 64 0; t = m }

-- numbers that pass 1 and 12
abbrev pub Opening : Numbers → Type 0
Opening N = (unfit N ≡ false) × (limit_outside N ≡ false)

-- "5: replay only: P above 256, or P × B or d × B above 16,384."
unfoldable pub large : Numbers → ℕ
large N = cond (ltb 256 N.P || ltb 16384 (N.P * N.B) || ltb 16384 (N.d * N.B)) 5 0

-- "In replay 4 comes before all, 5 right after 1." The number of line 1's refusal, 0 where the box is opened.
unfoldable pub box_refusal : Option Command → ℕ
box_refusal (Some (Box B P m d)) = cond (unfit (numbers B P m d)) 1 (large (numbers B P m d))
box_refusal (Some (Read a)) = 4
box_refusal (Some (Look a)) = 4
box_refusal (Some Flush) = 4
box_refusal (Some (Through a x)) = 4
box_refusal (Some (Back a x)) = 4
box_refusal (Some (Invalidate a x)) = 4
box_refusal None = 4

abbrev pub box_numbers : Option Command → Numbers
box_numbers (Some (Box B P m d)) = numbers B P m d
box_numbers (Some (Read a)) = numbers 0 0 0 0
box_numbers (Some (Look a)) = numbers 0 0 0 0
box_numbers (Some Flush) = numbers 0 0 0 0
box_numbers (Some (Through a x)) = numbers 0 0 0 0
box_numbers (Some (Back a x)) = numbers 0 0 0 0
box_numbers (Some (Invalidate a x)) = numbers 0 0 0 0
box_numbers None = numbers 0 0 0 0

-- "Disk block k starts filled with byte k."
unfoldable pub start_disk : ℕ → ℕ → List ℕ
start_disk B zero = []
start_disk B (suc k) = start_disk B k ++ replicate B k

-- the box as it is opened: fresh, over that disk and a flash of zeros
unfoldable pub started : Numbers → Lent
started N = fresh N (record { n = 0; disk = start_disk N.B N.P; flash = replicate (N.d * N.B) 0; addresses = []; blocks = []; counters = no_counts })

-- ---- a later line

-- the call that a line asks for: "a block of B bytes hh"; a read is lent a block of zeros; a flush is the full one; U7: writes carry a seat, "0 in replay"
unfoldable pub asked : Numbers → Option Command → Option Ask
asked N (Some (Read a)) = Some (Ask.read a (replicate N.B 0))
asked N (Some (Look a)) = Some (Ask.look a)
asked N (Some Flush) = Some (Ask.flush N.m)
asked N (Some (Through a x)) = Some (Ask.through a (replicate N.B x) 0)
asked N (Some (Back a x)) = Some (Ask.back a (replicate N.B x) 0)
asked N (Some (Invalidate a x)) = Some (Ask.invalidate a (replicate N.B x) 0)
asked N (Some (Box b p m d)) = None
asked N None = None

-- what the line answers, and what is lent after it; "4: a replay line isn't of the form below"
pub record Done : Type 0 where
  pub answer : Answer
  pub lent : Lent

unfoldable pub doing : Numbers → Lent → Option Ask → Done
doing N t None = record { answer = refused 4; lent = t }
doing N t (Some q) = record { answer = (call N t q).answer; lent = (call N t q).lent }

-- ---- the whole

-- "each later line takes the next [call number], refused ones too"; numbers have 64 bits
abbrev pub next : ℕ → ℕ
next k = (k + 1) % 2 ^ 64

unfoldable pub later_lines : ℕ → Numbers → Lent → List (List ℕ) → List ℕ
later_lines k N t [] = counters_text t.counters
later_lines k N t (l ∷ ls) =
    let o = doing N t (asked N (parsed l)) in
    answer_text k (parsed l) o.answer ++ later_lines (next k) N o.lent ls

-- "Refusals show .. 0 for the box line"; "if line 1 is refused the program ends there, without the counters line"
unfoldable pub all_lines : List (List ℕ) → List ℕ
all_lines [] = []
all_lines (l ∷ ls) =
    let c = parsed l in
    cond (eqb (box_refusal c) 0) (later_lines 1 (box_numbers c) (started (box_numbers c)) ls) (answer_text 0 c (refused (box_refusal c)))

unfoldable pub replay : List ℕ → List ℕ
replay input = all_lines (lines input)

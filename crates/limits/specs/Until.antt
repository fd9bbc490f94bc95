-- Two runs of boxes that run a policy under two limits: what is one for every policy. A kind of box says by `Serves` that its calls on lent memory are those
-- over its policy; then each call of two runs shows the same until a 9.
use Rattle.std.specs.Prelude.{◌≡◌, refl, Bool, ◌&&◌, cond, ◌≢◌, ℕ, ◌<◌, ◌*◌, eqb, length}
use Rattle.std.proofs.Common.{sym, ap, ◌∙◌, subst₂, eqb-true}
use mathlib.Core.List.{List, [], ◌∷◌}
use Rattle.std.proofs.Math.Option.{none, some}
use Rattle.std.proofs.lemmas.Bool.{eqb-false}
use Rattle.paper.specs.Cache.{Numbers, Hashing, Box, Outcome, Within, no_counts}
use Rattle.paper.specs.KeyedLaws.{All, by-test}
use Rattle.paper.specs.Engine.{Fixed, labelled}
use Rattle.paper.specs.Lent.{Ask, call_of, about_ask, address_of, lent_block, counts, join, block_after, part_after, test, first, other_length, wrong_block}
use Rattle.paper.specs.Lent.{outside, over}
use Rattle.paper.specs.Reports.{width}
use Rattle.paper.specs.Batch.{Batched, start, blocks_in}
use Rattle.paper.specs.BatchLent.{Asking, one, many, report, recount, bad_count, any_outside}
use Rattle.arc.specs.Policy.{Policy}
use Rattle.arc.proofs.PromiseLaws.{Promise}
use Rattle.blind.specs.Serving.{State, served_by, folder_by, served_state}
use Rattle.limits.specs.AsWithout.{Shown, single, folder, number, Kind, UntilNine}
use Rattle.limits.specs.Beside.{capped}

-- what a call shows: refused, and by its outcome
abbrev pub refused_shown : ℕ → Asking → Shown
refused_shown k (one q) = single k none (cond (about_ask q).reads (lent_block q) (cond (about_ask q).returns (some []) none))
refused_shown k (many l buffer) = folder k none buffer
refused_shown k (report w lent) = number k
refused_shown k (recount c) = number k

module _ {F : Type 0} {B : ℕ} where
  abbrev pub outcome_shown : Ask → Outcome F (Fixed B) → Shown
  outcome_shown q o =
      single 0 (some o.word)
      (cond (about_ask q).reads (block_after q o.block) (cond (about_ask q).returns (some (part_after q o.block)) none))

  abbrev pub batch_shown : Batched F (Fixed B) → Shown
  batch_shown r = folder 0 (some r.hits) (join (blocks_in r.filled))

-- The number that a call gets in a state reached, 0 where it is served: by what is asked, and by the counters. The numbers and the limit fit, lengths are
-- kept, and tables and lists pass.
abbrev pub number_by : (B P m : ℕ) → (counter_over : Bool) → Asking → ℕ
number_by B P m o (one q) = first (test (wrong_block B (lent_block q)) 2 ∷ test (outside P (address_of q)) 3 ∷ test (counts q && o) 9 ∷ [])
number_by B P m o (many l buffer) =
    first (test (other_length buffer (length l * B)) 2 ∷ test (bad_count l) 10 ∷ test (any_outside P l) 3 ∷ test o 9 ∷ [])
number_by B P m o (report w lent) = first (test (other_length lent (m * width w)) 2 ∷ [])
number_by B P m o (recount k) = 0

-- the addresses asked for are the disk's
abbrev pub Inside : (B P : ℕ) → Asking → Type 0
Inside B P (one q) = Within P (call_of B q)
Inside B P (many l buffer) = All (λ a. a < P) l
Inside B P (report w lent) = Unit {0}
Inside B P (recount k) = Unit {0}

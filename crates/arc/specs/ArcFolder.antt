-- U2 on the lent bytes of a D-ARC box: which folder reads are refused, and what each answers and leaves.
-- Assumes nothing.
use Rattle.std.specs.Prelude.{◌||◌, cond, List, [], ◌∷◌, ℕ, ◌*◌, eqb, length}
use Rattle.paper.specs.Engine.{Fixed, labelled}
use Rattle.paper.specs.Lent.{Ask, Test, test, first, limit_outside, other_length, over, box_in, lent_of, join}
use Rattle.paper.specs.Batch.{start, blocks_in}
use Rattle.paper.specs.BatchLent.{bad_count, any_outside, BatchAnswer, refused, batched}
use Rattle.arc.specs.Folder.{FolderBy, folder}
use Rattle.arc.specs.Arc.{Sizes, base_numbers, Lists, arc}
use Rattle.arc.specs.ArcLent.{ArcLent, lists_in, unfit_arc, wrong_arc_buffers, arc_table_tests, arc_lent_of, arc_served}

-- "It refuses with 10 an empty list or one above 64, checked after 2, and with 3 if any address is too large"; 11 in place of 1
abbrev pub arc_folder_tests : Sizes → ArcLent → (asked buffer : List ℕ) → List Test
arc_folder_tests Z t l buffer =
    test (unfit_arc Z) 11
    ∷ test (limit_outside (base_numbers Z)) 12
    ∷ test (wrong_arc_buffers Z t || other_length buffer (length l * Z.B)) 2
    ∷ test (bad_count l) 10
    ∷ test (any_outside Z.P l) 3
    ∷ arc_table_tests Z t (test (over t.base.counters) 9 ∷ [])

unfoldable pub arc_folder_refusal : Sizes → ArcLent → (asked buffer : List ℕ) → ℕ
arc_folder_refusal Z t l buffer = first (arc_folder_tests Z t l buffer)

pub record ArcFolderAfter : Type 0 where
  pub answer : BatchAnswer
  pub lent : ArcLent
  pub buffer : List ℕ

-- before the first read, and after the reads of l
abbrev pub folder_start : (Z : Sizes) → ArcLent → FolderBy (Fixed 32) (Fixed Z.B) Lists
folder_start Z t = record { kept = lists_in t.sizes t.lists; batched = start (box_in (base_numbers Z) t.base) t.base.counters }

abbrev pub folder_from : (Z : Sizes) → ArcLent → List ℕ → FolderBy (Fixed 32) (Fixed Z.B) Lists
folder_from Z t l = folder (labelled (base_numbers Z)) (arc (labelled (base_numbers Z)) Z) (folder_start Z t) l

-- the bytes of what it leaves
abbrev pub folder_lent : (Z : Sizes) → FolderBy (Fixed 32) (Fixed Z.B) Lists → ArcLent
folder_lent Z r = arc_lent_of Z r.kept (lent_of (base_numbers Z) r.batched.box r.batched.counters)

unfoldable pub arc_served_folder : Sizes → ArcLent → List ℕ → ArcFolderAfter
arc_served_folder Z t l =
    let r = folder_from Z t l in
    record {
      answer = batched r.batched.hits r.batched.flash_writes r.batched.primary_writes r.batched.fetches;
      lent = folder_lent Z r;
      buffer = join (blocks_in r.batched.filled);
    }

-- the call: refused, with everything kept, or served
unfoldable pub arc_folder_call : Sizes → ArcLent → (asked buffer : List ℕ) → ArcFolderAfter
arc_folder_call Z t l buffer =
    cond (eqb (arc_folder_refusal Z t l buffer) 0)
    (arc_served_folder Z t l)
    (record { answer = refused (arc_folder_refusal Z t l buffer); lent = t; buffer = buffer })

-- "the reads done in turn, with 9 checked only before the first": each as a read that isn't refused is served
unfoldable pub arc_served_in_turn : Sizes → ArcLent → List ℕ → ArcLent
arc_served_in_turn Z t [] = t
arc_served_in_turn Z t (a ∷ l) = arc_served_in_turn Z (arc_served Z t (Ask.read a [])).lent l

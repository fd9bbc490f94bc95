-- The bodies of both kinds of box: what a save keeps of it, and which bodies are refused.
-- Assumes nothing.
use Rattle.std.specs.Prelude.{Bool, not, cond, List, [], ◌∷◌, ℕ, ◌+◌, ◌*◌, eqb, get_or}
use Rattle.std.proofs.Math.Option.{Option, none, some}
use Rattle.tables.specs.Rows.{table_bytes}
use Rattle.paper.specs.Cache.{Numbers, no_counts}
use Rattle.paper.specs.Lent.{Lent, unfit, limit_outside, Test, test, first, table_tests}
use Rattle.arc.specs.Arc.{Sizes, base_numbers}
use Rattle.arc.specs.ArcLent.{ListRecord, ArcLent, unfit_arc, arc_table_tests}
use Rattle.image.specs.Body.{Fields, Form}

abbrev pub number_at : Fields → ℕ → ℕ
number_at x k = get_or x.numbers k 0

abbrev pub string_at : Fields → ℕ → List ℕ
string_at x k = get_or x.strings k []

-- "0, B, P, m, d, n, t .. then label, tables and lists"; "for a D-LRU image the lists' buffer has length 0"
abbrev pub lru_fields : Numbers → Lent → Fields
lru_fields N t =
    record { numbers = 0 ∷ N.B ∷ N.P ∷ N.m ∷ N.d ∷ t.n ∷ N.t ∷ []; strings = N.label ∷ t.addresses ∷ t.blocks ∷ [] ∷ [] }

-- "or for D-ARC 1, B, P, C, X, n, t, p and the five list sizes"
abbrev pub arc_fields : Sizes → ArcLent → Fields
arc_fields Z t =
    let r = t.sizes in
    record {
      numbers = 1 ∷ Z.B ∷ Z.P ∷ Z.C ∷ Z.X ∷ t.base.n ∷ Z.t ∷ r.p ∷ r.t1 ∷ r.t2 ∷ r.b1 ∷ r.b2 ∷ r.b3 ∷ [];
      strings = Z.label ∷ t.base.addresses ∷ t.base.blocks ∷ t.lists ∷ [];
    }

-- the record and the tables in the fields; disk, flash and counters are not in an image
abbrev pub lru_numbers : Fields → Numbers
lru_numbers x =
    record { B = number_at x 1; P = number_at x 2; m = number_at x 3; d = number_at x 4; label = string_at x 0; t = number_at x 6 }

abbrev pub tables_in : Fields → Lent
tables_in x = record { n = number_at x 5; disk = []; flash = []; addresses = string_at x 1; blocks = string_at x 2; counters = no_counts }

abbrev pub arc_sizes : Fields → Sizes
arc_sizes x =
    record { B = number_at x 1; P = number_at x 2; C = number_at x 3; X = number_at x 4; label = string_at x 0; t = number_at x 6 }

abbrev pub list_sizes : Fields → ListRecord
list_sizes x =
    record { t1 = number_at x 8; t2 = number_at x 9; b1 = number_at x 10; b2 = number_at x 11; b3 = number_at x 12; p = number_at x 7 }

abbrev pub lists_found : Fields → ArcLent
lists_found x = record { base = tables_in x; sizes = list_sizes x; lists = string_at x 3 }

-- "fails 1, 11, 12, 6, 7, 8 or 13": none of these tests of a call reads the disk, the flash or the counters
abbrev pub lru_checks : Fields → List Test
lru_checks x = test (unfit (lru_numbers x)) 1 ∷ test (limit_outside (lru_numbers x)) 12 ∷ table_tests (lru_numbers x) (tables_in x) []

abbrev pub arc_checks : Fields → List Test
arc_checks x =
    test (unfit_arc (arc_sizes x)) 11 ∷ test (limit_outside (base_numbers (arc_sizes x))) 12 ∷ arc_table_tests (arc_sizes x) (lists_found x) []

abbrev pub failing : List Test → Bool
failing l = not (eqb (first l) 0)

unfoldable pub lru_form : Form
lru_form =
    record {
      count = 7;
      sizes = λ ns. 64 ∷ table_bytes (get_or ns 3 0) ∷ table_bytes (get_or ns 4 0) ∷ 0 ∷ [];
      fails = λ x. failing (lru_checks x);
    }

-- "its m is 2 × C + X", its d is C, its lists lie "end to end in m × 4 bytes"
abbrev pub rows_of : List ℕ → ℕ
rows_of ns = get_or ns 3 0 + get_or ns 3 0 + get_or ns 4 0

unfoldable pub arc_form : Form
arc_form =
    record {
      count = 13;
      sizes = λ ns. 64 ∷ table_bytes (rows_of ns) ∷ table_bytes (get_or ns 3 0) ∷ rows_of ns * 4 ∷ [];
      fails = λ x. failing (arc_checks x);
    }

-- "a body that starts above 1" has no form
unfoldable pub kinds : ℕ → Option Form
kinds k = cond (eqb k 0) (some lru_form) (cond (eqb k 1) (some arc_form) none)

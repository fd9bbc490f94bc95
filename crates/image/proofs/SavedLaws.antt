-- Save and restore: each refusal exactly, a refused call keeps all, a complete save gives the box back, a cut one is refused with 15.
use Rattle.std.specs.Prelude.{◌≡◌, Bool, true, false, cond, ◌↔◌, ◌⊎◌, ◌≢◌, ℕ, suc, eqb, length, take, drop}
use Rattle.std.proofs.Math.Path.{refl}
use Rattle.std.proofs.Common.{sym, ap, ◌∙◌, subst, inl, inr}
use mathlib.Core.List.{List, [], ◌∷◌, ◌++◌}
use Rattle.std.proofs.Math.Option.{Option, some}
use borrow.Author.Tests.{eqb-true, eqb-false, eq-eqb, ne_eqb}
use Rattle.tables.specs.Rows.{zeros, le4}
use Rattle.tables.specs.ShiftLaws.{length-zeros}
use Rattle.paper.specs.KeyedLaws.{by-test, either, or-false-left, or-false-right}
use Rattle.paper.specs.Lent.{Test, test, first, one_of, refused}
use Rattle.paper.specs.RefusalLaws.{test_numbers, Apart, NoneOf}
use Rattle.paper.proofs.RefusalLaws.{gives, gives_none, in-first}
use Rattle.image.specs.Body.{Fields, body_of, Form, fields_in, no_body}
use Rattle.image.specs.Area.{put, applied, clearing, header, save_writes, cut_at, CanLeave}
use Rattle.image.specs.Image.{is_image, length_in, body_in, no_image, too_short, image_tests, image_refusal}
use Rattle.image.specs.Kinds.{string_at}
use Rattle.image.specs.Saved.{Saver, Saved, save_tests, save_refusal, body_saved, save}
use Rattle.image.specs.Saved.{Restored, record_of, fields_as, fields_found, wrong_tables, restore_tests, restore_refusal, restored, unrestored, restore}
use Rattle.image.proofs.AreaLaws.{front-left}
use Rattle.image.proofs.ImageLaws.{clear-is-none, none-refused}
use Rattle.image.specs.KindLaws.{Savable}
use Rattle.image.proofs.KindLaws.{saved-found, cut-refused, form-found}

-- ---- a save
-- a test behind others whose numbers are not 0
pub first-behind : (l : List Test) (x : Test) → one_of 0 (test_numbers l) ≡ false
    → first (l ++ (x ∷ [])) ≡ cond (eqb (first l) 0) (cond x.holds x.number 0) (first l)
first-behind [] x h = refl
first-behind (y ∷ ys) x h =
    let own = or-false-left (eqb 0 y.number) (one_of 0 (test_numbers ys)) h in
    let rest = or-false-right (eqb 0 y.number) (one_of 0 (test_numbers ys)) h in
    by-test y.holds
    (λ e. rw (e, ne_eqb y.number 0 (λ z. eqb-false 0 y.number own (sym z))) refl)
    (λ e. rw e (first-behind ys x rest))

module _ {M : Type 0} (k : Saver M) (t : M) (area : List ℕ) where
  -- "in a save after all else": a save gets what its flush gets, and where that gets 0, 14 exactly where the area is too short
  pub save-number : one_of 0 (test_numbers (k.tests t)) ≡ false
      → save_refusal k t area ≡ cond (eqb (first (k.tests t)) 0) (cond (too_short area (length (body_of (k.fields t)))) 14 0) (first (k.tests t))
  unfolding save_refusal
  save-number = first-behind (k.tests t) (test (too_short area (length (body_of (k.fields t)))) 14)

  pub save-is : save_refusal k t area ≡ 0
      → save k t area ≡ record { answer = k.answer t; lent = k.flushed t; area = applied (save_writes (body_saved k t)) area }
  unfolding save
  save-is e = rw e refl

  -- a refused save keeps all, and doesn't flush
  pub save-keeps : save_refusal k t area ≢ 0 → save k t area ≡ record { answer = refused (save_refusal k t area); lent = t; area = area }
  unfolding save
  save-keeps n = rw (ne_eqb (save_refusal k t area) 0 n) refl

-- ---- a restore
module _ (forms : ℕ → Option Form) where
  module _ (area a b l : List ℕ) where
    abbrev tables : Bool
    tables = wrong_tables forms (fields_found forms area) a b l

    abbrev short : Bool
    short = too_short area (length_in area)

    abbrev body : Bool
    body = no_body forms (body_in area)

    abbrev number : ℕ
    number = restore_refusal forms area a b l

    -- "a restore checks 15 first .. then 14, then 16 .. then 2": each exactly
    pub record ExactlyRestore : Type 0 where
      pub gives-15 : number ≡ 15 ↔ (NoneOf [] × (no_image area ≡ true))
      pub gives-14 : number ≡ 14 ↔ (NoneOf (no_image area ∷ []) × (short ≡ true))
      pub gives-16 : number ≡ 16 ↔ (NoneOf (no_image area ∷ short ∷ []) × (body ≡ true))
      pub gives-2 : number ≡ 2 ↔ (NoneOf (no_image area ∷ short ∷ body ∷ []) × (tables ≡ true))
      pub gives-0 : number ≡ 0 ↔ NoneOf (no_image area ∷ short ∷ body ∷ tables ∷ [])
      pub no_other : one_of number (0 ∷ 15 ∷ 14 ∷ 16 ∷ 2 ∷ []) ≡ true

    pub exactly-restore : ExactlyRestore
    unfolding restore_refusal
    exactly-restore =
        let s = restore_tests forms area a b l in
        let d : Apart s = (refl, (refl, (refl, (refl, (refl, tt))))) in
        record {
          gives-15 = gives [] (test (no_image area) 15) (drop 1 s) d;
          gives-14 = gives (take 1 s) (test short 14) (drop 2 s) d;
          gives-16 = gives (take 2 s) (test body 16) (drop 3 s) d;
          gives-2 = gives (take 3 s) (test tables 2) [] d;
          gives-0 = gives_none s d;
          no_other = in-first s;
        }

    -- a refused restore keeps all and returns a record of zeros
    pub restore-keeps : number ≢ 0 → restore forms area a b l ≡ unrestored forms number area a b l
    unfolding restore
    restore-keeps n = rw (ne_eqb number 0 n) refl

    restore-15 : image_refusal forms area ≡ 15 → restore forms area a b l ≡ unrestored forms 15 area a b l
    unfolding restore restore_refusal image_refusal
    restore-15 e =
        let s = image_tests forms area [] in
        let d : Apart s = (refl, (refl, (refl, (refl, tt)))) in
        rw ((gives [] (test (no_image area) 15) (drop 1 s) d).0 e).1 refl

  -- "clears it": a second restore of the area gets 15
  pub restore-once : (area a b l : List ℕ) → restore forms (put area clearing) a b l ≡ unrestored forms 15 (put area clearing) a b l
  restore-once area a b l =
      restore-15 (put area clearing) a b l
      (none-refused forms (put area clearing) (ap is_image (front-left (zeros 64) area (length-zeros 64)) ∙ clear-is-none))

  -- what is given back of saved fields, from an area that has them
  abbrev pub given_back : Fields → List ℕ → Restored
  given_back x area =
      record {
        number = 0;
        given = record_of x;
        area = put area clearing;
        addresses = string_at x 1;
        blocks = string_at x 2;
        lists = string_at x 3;
      }

  -- what is lent to a restore has the lengths of what was saved
  abbrev pub RightLengths : Fields → (addresses blocks lists : List ℕ) → Type 0
  RightLengths x a b l = (length a ≡ length (string_at x 1)) × (length b ≡ length (string_at x 2)) × (length l ≡ length (string_at x 3))

  module _ (f : Form) (x : Fields) (area : List ℕ) (h : Savable forms f x area) (a b l : List ℕ) (r : RightLengths x a b l) where
    abbrev after : List ℕ
    after = applied (save_writes (body_of x)) area

    found : fields_found forms after ≡ x
    unfolding fields_found
    found = rw (form-found forms f x area h) (saved-found forms f x area h).1

    passes : restore_refusal forms after a b l ≡ 0
    unfolding restore_refusal wrong_tables image_refusal
    passes =
        let s = image_tests forms after [] in
        let d : Apart s = (refl, (refl, (refl, (refl, tt)))) in
        let n = (gives_none s d).0 (saved-found forms f x area h).0 in
        let ea = eq-eqb (length a) (length (string_at x 1)) r.0 in
        let eb = eq-eqb (length b) (length (string_at x 2)) r.1 in
        let el = eq-eqb (length l) (length (string_at x 3)) r.2 in
        rw (n.0, n.1.0, n.1.1.0, found, ea, eb, el) refl

    -- "Restore .. gives back the saved box"
    pub restore-finds : restore forms after a b l ≡ given_back x after
    unfolding restore restored
    restore-finds = rw (passes, found) refl

    -- "At whichever write of a save the power fails, if the area's header was no image before it, restore, lent the right lengths, finds that save's box if
    -- the last write is new, else refuses with 15"
    pub restore-after-cut : (j : ℕ) (left : List ℕ) → no_image area ≡ true → CanLeave (save_writes (body_of x)) j left area
        → let cut = cut_at (save_writes (body_of x)) j left area in
        ((suc j ≡ length (save_writes (body_of x))) × (left ≡ header (length (body_of x))) × (restore forms cut a b l ≡ given_back x cut))
        ⊎ (restore forms cut a b l ≡ unrestored forms 15 cut a b l)
    restore-after-cut j left clear q =
        either (cut-refused forms f x area h j left clear q)
        (λ new. inl (new.0, new.1, subst (λ y. restore forms y a b l ≡ given_back x y) (sym new.2) restore-finds))
        (λ e. inr (restore-15 (cut_at (save_writes (body_of x)) j left area) a b l e))

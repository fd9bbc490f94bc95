-- What a restore finds in the area after a save.
use Rattle.std.specs.Prelude.{◌≡◌, true, not, ◌||◌, cond, ◌⊎◌, ℕ, suc, ◌+◌, ◌-◌, ◌*◌, ◌^◌, ◌≤◌, ◌<◌, eqb, ltb, drop}
use Rattle.std.proofs.Math.Path.{refl, ap, ap₂}
use Rattle.std.proofs.Common.{sym, ◌∙◌, arith}
use Rattle.std.proofs.Math.Bool.{false}
use mathlib.Core.List.{List, [], ◌∷◌, ◌++◌, append_assoc}
use Rattle.std.proofs.Math.Logic.{inl, inr}
use Rattle.std.proofs.Math.Option.{Option, some}
use Rattle.std.proofs.Math.ListN.{length, take, length-append, length-drop}
use Rattle.std.proofs.Math.Seq.{take_at, drop_at}
use borrow.Author.Tests.{le-ltb, ltb-false, not-true}
use Rattle.tables.specs.Rows.{zeros, le4}
use Rattle.tables.specs.Find.{all, same}
use Rattle.tables.specs.ShiftLaws.{length-zeros}
use Rattle.tables.proofs.OperationLaws.{le4-bytes4}
use Rattle.paper.specs.KeyedLaws.{either}
use Rattle.image.specs.Body.{Fields, body_of, Form, fails_as, fails_in, no_body}
use Rattle.image.specs.Area.{applied, writes_for, padded, header, save_writes, cut_at, CanLeave}
use Rattle.image.specs.Image.{is_image, no_image, length_in, body_in, too_short, image_refusal}
use Rattle.image.proofs.AreaLaws.{length-padded, length-header, save-applied, cut-save}

pub header-is-image : (n : ℕ) → is_image (header n) ≡ true
unfolding is_image header all same zeros
header-is-image n = refl

pub clear-is-none : is_image (zeros 64) ≡ false
unfolding is_image all same zeros
clear-is-none = refl

-- an area whose header is no image gets 15
pub none-refused : (forms : ℕ → Option Form) (area : List ℕ) → is_image (take 64 area) ≡ false → image_refusal forms area ≡ 15
unfolding image_refusal no_image
none-refused forms area e = rw e (rw (or-true (ltb (length area) 64)) refl)
  where
    or-true : (b : _) → (b || true) ≡ true
    or-true true = refl
    or-true false = refl

module _ (body area : List ℕ) (fits : length body < 2 ^ 32) (long : too_short area (length body) ≡ false) where
  enough : 64 + writes_for (length body) * 64 ≤ length area
  unfolding too_short
  enough = ltb-false (length area) (64 + writes_for (length body) * 64) long

  abbrev after : List ℕ
  after = applied (save_writes body) area

  rest : List ℕ
  rest = drop (64 + writes_for (length body) * 64) area

  after_is : after ≡ header (length body) ++ (padded body ++ rest)
  unfolding rest
  after_is = save-applied body area enough

  pub save-keeps-length : length after ≡ length area
  unfolding rest
  save-keeps-length =
      ap length after_is
      ∙ length-append (header (length body)) (padded body ++ rest)
      ∙ (let e = enough in
      let a = length-header (length body) in
      let b = length-append (padded body) rest in
      let c = length-padded body in
      let d = length-drop (64 + writes_for (length body) * 64) area in
      omega arith)

  save-no-15 : no_image after ≡ false
  unfolding no_image
  save-no-15 =
      let e = enough in
      let l = save-keeps-length in
      let t = ap (take 64) after_is ∙ take_at (header (length body)) (padded body ++ rest) 64 (length-header (length body)) in
      rw (le-ltb (length after) 64 (omega arith), t, header-is-image (length body))

  pub length_found : length_in after ≡ length body
  unfolding length_in header
  length_found = ap (λ a. le4 a 5) after_is ∙ le4-bytes4 (length body) fits

  pub body-found : body_in after ≡ body
  unfolding body_in padded
  body-found =
      let fill = zeros (writes_for (length body) * 64 - length body) in
      let behind = ap (drop 64) after_is
      ∙ drop_at (header (length body)) (padded body ++ rest) 64 (length-header (length body))
      ∙ append_assoc body fill rest in
      ap₂ {C = List ℕ} take length_found behind ∙ take_at body (fill ++ rest) (length body) refl

  save-no-14 : too_short after (length_in after) ≡ false
  unfolding too_short
  save-no-14 = rw (length_found, save-keeps-length) long

  -- after a complete save, a body that passes is not refused
  pub save-found : (forms : ℕ → Option Form) → no_body forms body ≡ false → image_refusal forms after ≡ 0
  unfolding image_refusal
  save-found forms e = rw (save-no-15, save-no-14, body-found, e)

  -- "At whichever write of a save the power fails, if the area's header was no image before it, restore .. finds that save's box if the last write is new,
  -- else refuses with 15": `after` is the area of the complete save
  pub cut-found : (forms : ℕ → Option Form) (j : ℕ) (left : List ℕ) → no_image area ≡ true → CanLeave (save_writes body) j left area
      → ((suc j ≡ length (save_writes body)) × (left ≡ header (length body)) × (cut_at (save_writes body) j left area ≡ after))
      ⊎ (image_refusal forms (cut_at (save_writes body) j left area) ≡ 15)
  unfolding no_image
  cut-found forms j left none h =
      let e = enough in
      let was : is_image (take 64 area) ≡ false = not-true (is_image (take 64 area)) (rw (le-ltb (length area) 64 (omega arith)) at none) in
      let cut = cut_at (save_writes body) j left area in
      either (cut-save body j left area (omega arith) h)
      (λ old. inr (none-refused forms cut (ap is_image old ∙ was)))
      (λ more. either more (λ z. inr (none-refused forms cut (ap is_image z ∙ clear-is-none))) (λ new. inl new))

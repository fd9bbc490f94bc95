-- A body of a known form that is saved is found again, and a cut save is refused with 15.
use Rattle.std.specs.Prelude.{◌≡◌, refl, true, false, not, List, [], ◌∷◌, ◌⊎◌, ℕ, suc, ◌+◌, ◌*◌, ◌^◌, ◌≤◌, ◌<◌, eqb, length, get_or}
use Rattle.std.proofs.Common.{sym, ◌∙◌, subst, arith}
use Rattle.std.proofs.Math.Path.{ap}
use Rattle.std.proofs.Math.Option.{Option, some}
use Rattle.tables.specs.Rows.{table_bytes, le4}
use Rattle.paper.specs.KeyedLaws.{All}
use Rattle.paper.specs.Cache.{Numbers}
use Rattle.paper.specs.Lent.{Lent, first}
use Rattle.arc.specs.Arc.{Sizes, m_of}
use Rattle.arc.specs.ArcLent.{ArcLent}
use Rattle.image.specs.Body.{total, Fields, body_of, Form, body_length, fields_in, fails_in, no_body}
use Rattle.image.specs.Area.{applied, header, save_writes, cut_at, CanLeave}
use Rattle.image.specs.Image.{body_in, no_image, too_short, image_refusal}
use Rattle.image.specs.Kinds.{lru_fields, arc_fields, lru_checks, arc_checks, lru_form, arc_form, kinds}
use Rattle.image.specs.BodyLaws.{Fits}
use Rattle.image.proofs.BodyLaws.{length-body, fields_back, body-passes, first_back}
use Rattle.image.proofs.ImageLaws.{save-found, body-found, cut-found}
use Rattle.image.specs.KindLaws.{Savable}

module _ (forms : ℕ → Option Form) (f : Form) (x : Fields) (area : List ℕ) (h : Savable forms f x area) where
  abbrev pub body : List ℕ
  body = body_of x

  length-here : length body ≡ body_length f x.numbers
  length-here = length-body f x h.fits

  fits-32 : length body < 2 ^ 32
  fits-32 = subst (λ n. n < 2 ^ 32) (sym length-here) h.short

  has_room : too_short area (length body) ≡ false
  has_room = ap (too_short area) length-here ∙ h.room

  body-here : no_body forms body ≡ false
  unfolding no_body fails_in
  body-here =
      let e : forms (le4 body 0) ≡ some f = ap forms (first_back x h.numbered h.fits.small) ∙ h.form in
      rw e (body-passes f x h.fits h.passes)

  pub form-found : forms (le4 (body_in (applied (save_writes body) area)) 0) ≡ some f
  form-found = ap (λ y. forms (le4 y 0)) (body-found body area fits-32 has_room) ∙ ap forms (first_back x h.numbered h.fits.small) ∙ h.form

  -- a restore of a complete save is not refused by the area, and reads the fields
  pub saved-found : (image_refusal forms (applied (save_writes body) area) ≡ 0) × (fields_in f (body_in (applied (save_writes body) area)) ≡ x)
  saved-found =
      (save-found body area fits-32 has_room forms body-here, ap (fields_in f) (body-found body area fits-32 has_room) ∙ fields_back f x h.fits)

  -- a cut save: all new, or 15
  pub cut-refused : (j : ℕ) (left : List ℕ) → no_image area ≡ true → CanLeave (save_writes body) j left area
      → ((suc j ≡ length (save_writes body)) × (left ≡ header (length body)) × (cut_at (save_writes body) j left area ≡ applied (save_writes body) area))
      ⊎ (image_refusal forms (cut_at (save_writes body) j left area) ≡ 15)
  cut-refused j left clear q = cut-found body area fits-32 has_room forms j left clear q

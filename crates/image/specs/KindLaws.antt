-- A body of a known form that is saved is found again, and a cut save is refused with 15.
use Rattle.std.specs.Prelude.{◌≡◌, refl, true, false, not, List, [], ◌∷◌, ◌⊎◌, ℕ, suc, ◌+◌, ◌*◌, ◌^◌, ◌≤◌, ◌<◌, eqb, length, get_or}
use Rattle.std.proofs.Common.{sym, ◌∙◌, subst, arith}
use Rattle.std.proofs.Math.Path.{ap}
use Rattle.std.proofs.Math.Option.{Option, some}
use Rattle.tables.specs.Rows.{table_bytes, le4}
use Rattle.paper.specs.KeyedLaws.{All}
use Rattle.paper.specs.Cache.{Numbers}
use Rattle.paper.specs.Lent.{Lent, first}
use Rattle.arc.specs.Arc.{Sizes, m_of}
use Rattle.arc.specs.ArcLent.{ArcLent}
use Rattle.image.specs.Body.{total, Fields, body_of, Form, body_length, fields_in, fails_in, no_body}
use Rattle.image.specs.Area.{applied, header, save_writes, cut_at, CanLeave}
use Rattle.image.specs.Image.{body_in, no_image, too_short, image_refusal}
use Rattle.image.specs.Kinds.{lru_fields, arc_fields, lru_checks, arc_checks, lru_form, arc_form, kinds}
use Rattle.image.specs.BodyLaws.{Fits}

-- fields whose form is known, which fit it, pass its tests and have room
pub record Savable (forms : ℕ → Option Form) (f : Form) (x : Fields) (area : List ℕ) : Type 0 where
  pub numbered : 1 ≤ length x.numbers
  pub form : forms (get_or x.numbers 0 0) ≡ some f
  pub fits : Fits f x
  pub passes : f.fails x ≡ false
  pub short : body_length f x.numbers < 2 ^ 32
  pub room : too_short area (body_length f x.numbers) ≡ false

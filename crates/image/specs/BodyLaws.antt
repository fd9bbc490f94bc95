-- A body that is written is read back.
use Rattle.std.specs.Prelude.{◌≡◌, refl, true, false, not, ◌||◌, eqb, length, take, drop, get_or}
use Rattle.std.proofs.Math.Path.{sym, ap, ap₂}
use Rattle.std.proofs.Common.{◌∙◌, arith, take_at, drop_at}
use mathlib.Core.List.{List, [], ◌∷◌, ◌++◌, map, append_assoc}
use Rattle.std.proofs.Math.Option.{Option, some}
use Prim.Native.Nat.{ℕ, ◌+◌, ◌*◌, ◌^◌, ◌≤◌, ◌<◌}
use Rattle.std.proofs.Math.ListN.{length-append}
use borrow.Author.Tests.{eq-eqb}
use Rattle.tables.specs.Rows.{flat, le4}
use Rattle.tables.proofs.OperationLaws.{le4-bytes4}
use Rattle.paper.specs.KeyedLaws.{All}
use Rattle.arc.specs.ArcLent.{words, word_bytes}
use Rattle.arc.proofs.ArcLentLaws.{length-words, words_back}
use Rattle.image.specs.Body.{pieces, total, Fields, body_of, Form, body_length, numbers_in, fields_in, fails_as, fails_in, no_body}

-- fields that a form has: as many numbers, each of 4 bytes, and byte strings of the lengths that they say
pub record Fits (f : Form) (x : Fields) : Type 0 where
  pub count : length x.numbers ≡ f.count
  pub small : All (λ k. k < 2 ^ 32) x.numbers
  pub sizes : map length x.strings ≡ f.sizes x.numbers

-- The addresses between move down, and the first of them goes behind: `word_moved`. Assumes nothing.
use Rattle.std.specs.Prelude.{◌+◌, ◌-◌, ◌*◌, List, ℕ, take, drop}
use Rattle.std.proofs.Common.{ap, ap₂, ◌∙◌, arith}
use Rattle.std.proofs.Math.Seq.{paste}
use Rattle.tables.specs.Records.{bytes4}
use Rattle.arclists.specs.ListedLaws.{word_moved, word-listed}
use Rattle.arclists.proofs.words.rotate_words.Goals as goal

pub returns : goal.returns
returns c =
    let a = c.args in
    let t = a.lists.now in
    λ m ws h k q.
    c.put_word.ensures
    ∙ ap₂ {C = List ℕ} (λ s b. paste s (a.j * 4) b 4) c.move_down.ensures
    (ap bytes4 c.word_at-a.ensures ∙ word-listed m ws a.i t (omega (arith, h)) q)
    ∙ ap (λ (t : List ℕ). paste (paste t (a.i * 4) (drop (a.i * 4 + 4) t) (a.j * 4 - a.i * 4)) (a.j * 4) (take 4 (drop (a.i * 4) t)) 4) q
    ∙ word_moved m ws a.i a.j (omega arith) h k

-- `hash::sha256` meets its contract.
-- Assumes nothing.
use Rattle.std.proofs.Common.{◌≡◌, ℕ, ◌+◌, ◌-◌, ◌*◌, ◌/◌, ◌%◌, ◌^◌, List, length, take, drop, sym, refl, ap, ◌∙◌, le_refl, arith, length-drop, length-take, take_all}
use Rattle.hash.specs.Sha256.{sha256, H0, digest, padded}
use Rattle.hash.proofs.Laws.{tail-padded, message}
use Rattle.hash.proofs.sha256.Goals as goal

pub slice_bounds-blocks-end : goal.slice_bounds-blocks-end
slice_bounds-blocks-end c = simp length-take (omega arith)

pub returns : goal.returns
unfolding sha256 H0
returns c =
    let m : List ℕ = c.args.message.now in
    let at : ℕ = length m - length m % 64 in
    let end : ℕ = (length m % 64 + 72) / 64 * 64 in
    let bits : ℕ = length m * 8 % 2 ^ 64 in
    let part : take (length m - at) (drop at m) ≡ drop at m = take_all (length m - at) (drop at m) (rw length-drop (le_refl _)) in
    let et : take end c.put_length-last.result ≡ padded (drop at m) (end - 9 - length (drop at m)) bits =
    rw (c.put_length-last.ensures, c.tail.ensures, part) (tail-padded (drop at m) end bits (rw length-drop (omega arith)) (omega arith)) in
    c.digest.ensures
    ∙ ap (λ (l : List ℕ). digest l 8) (c.blocks-2.ensures ∙ rw (c.blocks-hash.ensures, c.initial.ensures) (sym (message H0 m (take end c.put_length-last.result) at end bits refl refl refl et)))

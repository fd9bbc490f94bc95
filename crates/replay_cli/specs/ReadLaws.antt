-- The texts of a run and of its end are the replay of the bytes read: by induction on the reads. Assumes nothing.
use Rattle.std.specs.Prelude.{◌≡◌, refl, List, [], ◌∷◌, ◌++◌, ℕ, zero, suc, ◌≤◌, length, take, get_or}
use Rattle.std.proofs.Common.{sym, ap, ◌∙◌, append_assoc, append-nil, arith, take-suc}
use Rattle.answers.specs.Replay.{replay}
use Rattle.tables.specs.Rows.{table_bytes}
use Rattle.session.specs.Memory.{Memory, memory, lengths_fit, numbers_fit, fits, fed, ended}
use Rattle.replay.specs.Pieces.{Ready, text_of, printed, replays}
use Rattle.replay_cli.specs.Chunks.{first, fed_first}
use Rattle.replay_cli.specs.Reads.{Reading, input, after, texts, handed, Made}

-- memory of these sizes before the first byte is ready
pub ready : (line disk flash addresses blocks out : List ℕ) → length line ≡ 33 → length disk ≡ 16384 → length flash ≡ 16384
    → length addresses ≡ table_bytes 1024 → length blocks ≡ table_bytes 256 → length out ≡ 256 → Ready (memory first line disk flash addresses blocks out)
unfolding fits lengths_fit numbers_fit
ready line disk flash addresses blocks out l d f a b o = record { fitting = rw (l, d, f, a, b, o) refl; stage = refl; kept = refl }

-- what the first n bytes print, and then the rest
printed-texts : (M : Memory) (l ys : List ℕ) (n : ℕ) → n ≤ length l → printed M (take n l ++ ys) ≡ texts l n M ++ printed (fed_first l n M) ys
unfolding printed
printed-texts M l ys zero h = refl
printed-texts M l ys (suc n) h =
    let x = get_or l n 0 in
    let K = fed_first l n M in
    ap (λ t. printed M (t ++ ys)) (take-suc l n 0 h)
    ∙ ap (printed M) (append_assoc (take n l) (x ∷ []) ys)
    ∙ printed-texts M l (x ∷ ys) n (omega arith)
    ∙ sym (append_assoc (texts l n M) (text_of (fed x K)) (printed (fed x K).memory ys))

-- what some reads print, and then the rest
printed-reads : (size : ℕ) (M : Memory) (rs : List Reading) (ys : List ℕ) → Made size M rs
    → printed M (input rs ++ ys) ≡ handed M rs ++ printed (after M rs) ys
printed-reads size M [] ys m = refl
printed-reads size M (r ∷ rs) ys m =
    let t = take r.count r.buffer in
    let h : r.count ≤ length r.buffer = rw m.0 m.1 in
    ap (printed M) (append_assoc (input rs) t ys)
    ∙ printed-reads size M rs (t ++ ys) m.3
    ∙ ap (λ z. handed M rs ++ z) (printed-texts (after M rs) r.buffer ys r.count h)
    ∙ sym (append_assoc (handed M rs) (texts r.buffer r.count (after M rs)) (printed (after M (r ∷ rs)) ys))

-- The law: in memory that is ready
pub run-replays : (size : ℕ) (M : Memory) (rs : List Reading) → Ready M → Made size M rs → handed M rs ++ text_of (ended (after M rs)) ≡ replay (input rs)
unfolding printed
run-replays size M rs ready m = sym (printed-reads size M rs [] m) ∙ ap (printed M) (append-nil (input rs)) ∙ replays M (input rs) ready

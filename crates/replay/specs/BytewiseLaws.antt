-- What is printed byte by byte is the replay of the whole input: by induction on the bytes that follow, for all bytes of a line that has begun.
-- Assumes nothing.
use Rattle.std.specs.Prelude.{◌≡◌, refl, cond, List, [], ◌∷◌, ◌++◌, ℕ, ◌≤◌, ◌<◌, eqb, ltb, length, take}
use Rattle.std.proofs.Common.{ap, ap₂, ◌∙◌, append-nil, arith, length-append, take_all, length-take-le, ltb-true, ltb-false}
use Rattle.std.proofs.Math.Dec.{eqb-suc-zero}
use Rattle.std.proofs.lemmas.List.{take-append-le}
use Rattle.paper.specs.KeyedLaws.{by-test}
use Rattle.paper.specs.Cache.{Numbers}
use Rattle.paper.specs.Lent.{Lent, refused}
use Rattle.lines.specs.Lines.{onto, lines_in, lines, parsed}
use Rattle.print.specs.Texts.{answer_text}
use Rattle.answers.specs.Replay.{box_refusal, box_numbers, started, asked, doing, next, later_lines, all_lines, replay}
use Rattle.session.specs.declared.Stage.{Stage}
use Rattle.session.specs.declared.Stage.TheVariants.{Before, Open, Over}
use Rattle.session.specs.Bytewise.{State, first_line, later_line, end_line, keep, byte_in, last_line, at_end, rest}

-- ---- the bytes kept of a line

kept_more : (p : List ℕ) (x : ℕ) → cond (ltb (length (take 33 p)) 33) (take 33 p ++ (x ∷ [])) (take 33 p) ≡ take 33 (p ++ (x ∷ []))
kept_more p x =
    by-test (ltb (length p) 33)
    (λ e.
    let h : length p < 33 = ltb-true (length p) 33 e in
    let s : length (p ++ (x ∷ [])) ≤ 33 = rw length-append (omega arith) in
    rw (take_all 33 p (omega arith), e, take_all 33 (p ++ (x ∷ [])) s))
    (λ e.
    let h : 33 ≤ length p = ltb-false (length p) 33 e in
    rw (length-take-le 33 p h, take-append-le 33 p (x ∷ []) h))

-- a line that is too long shows it in 33 bytes
parsed-kept : (p : List ℕ) → parsed (take 33 p) ≡ parsed p
unfolding parsed
parsed-kept p =
    by-test (ltb 32 (length p))
    (λ e.
    let h : 33 ≤ length p = ltb-true 32 (length p) e in
    rw (length-take-le 33 p h, e))
    (λ e.
    let h : length p ≤ 32 = ltb-false 32 (length p) e in
    rw (take_all 33 p (omega arith)))

-- ---- lines of which the first bytes are given apart

abbrev before : List ℕ → List (List ℕ) → List (List ℕ)
before [] ls = ls
before (c ∷ p) ls = onto c (before p ls)

before-line : (p l : List ℕ) (ls : List (List ℕ)) → before p (l ∷ ls) ≡ (p ++ l) ∷ ls
unfolding onto
before-line [] l ls = refl
before-line (c ∷ p) l ls = rw (before-line p l ls)

before-none : (c : ℕ) (p : List ℕ) → before (c ∷ p) [] ≡ (c ∷ p) ∷ []
unfolding onto
before-none c [] = refl
before-none c (d ∷ p) = rw (before-none d p)

before_more : (p : List ℕ) (c : ℕ) (ls : List (List ℕ)) → before (p ++ (c ∷ [])) ls ≡ before p (onto c ls)
before_more [] c ls = refl
before_more (d ∷ p) c ls = ap (onto d) (before_more p c ls)

-- the first byte of a line makes it one
onto-lines : (c : ℕ) (l : List ℕ) → onto c (lines l) ≡ onto c (lines_in l)
unfolding onto lines lines_in
onto-lines c [] = refl
onto-lines c (d ∷ l) = refl

-- ---- byte by byte

abbrev state : Stage → List ℕ → ℕ → Numbers → Lent → State
state stage kept number N t = record { stage = stage; kept = kept; number = number; numbers = N; lent = t }

-- nothing more is printed
silent : (p : List ℕ) (k : ℕ) (N : Numbers) (t : Lent) (l : List ℕ) → rest (state Over p k N t) l ≡ []
unfolding rest at_end last_line end_line byte_in keep
silent p k N t [] = by-test (eqb (length p) 0) (λ e. rw e) (λ e. rw e)
silent p k N t (x ∷ l) = by-test (eqb x 10) (λ e. rw e (silent p k N t l)) (λ e. rw e (silent (cond (ltb (length p) 33) (p ++ (x ∷ [])) p) k N t l))

-- the last line
last : (p : List ℕ) (k : ℕ) (N : Numbers) (t : Lent) → (at_end (state Open (take 33 p) k N t)).text ≡ later_lines k N t (before p [])
unfolding at_end last_line end_line later_line later_lines
last [] k N t = refl
last (c ∷ p) k N t = rw (eqb-suc-zero (length (take 32 p)), parsed-kept (c ∷ p), before-none c p)

-- a later line
later : (p : List ℕ) (k : ℕ) (N : Numbers) (t : Lent) (l : List ℕ) → rest (state Open (take 33 p) k N t) l ≡ later_lines k N t (before p (lines_in l))
unfolding rest byte_in end_line later_line keep later_lines lines_in
later p k N t [] = last p k N t
later p k N t (x ∷ l) =
    let o = doing N t (asked N (parsed p)) in
    by-test (eqb x 10)
    (λ e. rw (e, parsed-kept p, before-line p [] (lines_in l), append-nil p)
    (ap (λ y. answer_text k (parsed p) o.answer ++ y) (later [] (next k) N o.lent l)))
    (λ e. rw (e, kept_more p x, ← before_more p x (lines_in l)) (later (p ++ (x ∷ [])) k N t l))

-- line 1
first : (p : List ℕ) (k : ℕ) (N : Numbers) (t : Lent) (l : List ℕ) → rest (state Before (take 33 p) k N t) l ≡ all_lines (before p (lines l))
unfolding rest byte_in at_end last_line end_line first_line keep all_lines later_lines lines lines_in
first p k N t [] =
    let c = parsed p in
    rw (parsed-kept p, before-line p [] [], append-nil p)
    (by-test (eqb (box_refusal c) 0)
    (λ e. rw e)
    (λ e. rw e (append-nil (answer_text 0 c (refused (box_refusal c))))))
first p k N t (x ∷ l) =
    let c = parsed p in
    by-test (eqb x 10)
    (λ e. rw (e, parsed-kept p, before-line p [] (lines_in l), append-nil p)
    (by-test (eqb (box_refusal c) 0)
    (λ f. rw f (later [] 1 (box_numbers c) (started (box_numbers c)) l))
    (λ f. rw (f, silent [] k N t l) (append-nil (answer_text 0 c (refused (box_refusal c)))))))
    (λ e. rw (e, kept_more p x, ← onto-lines x l, ← before_more p x (lines l)) (first (p ++ (x ∷ [])) k N t l))

pub rest-replays : (s : State) (input : List ℕ) → s.stage ≡ Before → s.kept ≡ [] → rest s input ≡ replay input
unfolding replay
rest-replays s input e f =
    ap₂ (λ g p. rest (state g p s.number s.numbers s.lent) input) e f ∙ first [] s.number s.numbers s.lent input

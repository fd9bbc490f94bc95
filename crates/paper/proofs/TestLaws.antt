-- Lists of numbers that the tests of tables pass: no two the same, each of 0 to d − 1 once.
use Rattle.std.specs.Prelude.{◌≡◌, refl, Bool, true, false, not, cond, ◌≢◌, ℕ, suc, eqb, ltb, length}
use Rattle.std.proofs.Common.{sym, ap, ◌∙◌, arith, eqb-true, ne_eqb}
use Rattle.std.proofs.lemmas.Bool.{false≢true}
use mathlib.Core.List.Permᴰ
use mathlib.Core.List.{List, [], ◌∷◌, Permᴰ}
use Rattle.tables.specs.Records.{slots_from}
use Rattle.tables.specs.Find.{all, same}
use Rattle.tables.specs.Unsound.{elem, count, each_once}
use Rattle.tables.specs.Sound.{distinct}
use Rattle.table_laws.specs.Checked.{each-once}
use Rattle.table_laws.specs.KeptLists.{both}
use Rattle.paper.specs.KeyedLaws.{All, all_map, by-test, either, clash, or_left, or_right, or-both, or_cases, and_left, and_right}
use Rattle.paper.specs.Engine.{same→≡, same_refl}
use Rattle.paper.proofs.SoundLaws.{length-perm, length-slots_from}
use Rattle.paper.specs.Faithful.{Apart}
use Rattle.paper.proofs.FaithfulLaws.{perm-apart, slots_apart}

-- `same` either way round
pub same-swap : (l k : List ℕ) → same l k ≡ same k l
same-swap l k =
    by-test (same l k)
    (λ e. e ∙ sym (ap (λ x. same k x) (same→≡ l k e) ∙ same_refl k))
    (λ e. e ∙ sym (by-test (same k l) (λ f. clash (ap (λ x. same l x) (same→≡ k l f) ∙ same_refl l) e) (λ f. f)))

-- as many numbers as there are, each in the list: nothing else is
erase : ℕ → List ℕ → List ℕ
erase k [] = []
erase k (x ∷ xs) = cond (eqb k x) xs (x ∷ erase k xs)

erase-perm : (k : ℕ) (l : List ℕ) → elem k l ≡ true → Permᴰ l (k ∷ erase k l)
unfolding erase elem
erase-perm k [] = λ h. absurd (false≢true h)
erase-perm k (x ∷ xs) =
    by-test (eqb k x)
    (λ e. rw e (λ h. Permᴰ.cons (sym (eqb-true k x e)) (Permᴰ.refl xs)))
    (λ e. rw e (λ h. Permᴰ.trans (Permᴰ.cons refl (erase-perm k xs h)) (Permᴰ.swap refl refl)))

erase-elem : (j k : ℕ) (l : List ℕ) → j ≢ k → elem j l ≡ true → elem j (erase k l) ≡ true
unfolding erase elem
erase-elem j k [] n = λ h. h
erase-elem j k (x ∷ xs) n =
    by-test (eqb k x)
    (λ e. rw e (λ h. either (or_cases (eqb j x) (elem j xs) h) (λ t. absurd (n (eqb-true j x t ∙ sym (eqb-true k x e)))) (λ t. t)))
    (λ e. rw e (λ h. either (or_cases (eqb j x) (elem j xs) h)
    (λ t. or_left (eqb j x) (elem j (erase k xs)) t)
    (λ t. or_right (eqb j x) (elem j (erase k xs)) (erase-elem j k xs n t))))

pigeon : (ks l : List ℕ) → Apart ks → All (λ k. elem k l ≡ true) ks → length l ≡ length ks → Permᴰ l ks
pigeon [] [] a h e = Permᴰ.nil
pigeon [] (x ∷ xs) a h e = absurd (omega arith)
pigeon (k ∷ ks) l a h e =
    let p = erase-perm k l h.0 in
    let q : length l ≡ suc (length (erase k l)) = length-perm p in
    let e' : length (erase k l) ≡ length ks = omega arith in
    Permᴰ.trans p (Permᴰ.cons refl (pigeon ks (erase k l) a.1 (rest k l ks a.0 h.1) e'))
  where
    rest : (k : ℕ) (l ks : List ℕ) → All (λ j. j ≢ k) ks → All (λ j. elem j l ≡ true) ks → All (λ j. elem j (erase k l) ≡ true) ks
    rest k l [] a h = tt
    rest k l (j ∷ js) a h = (erase-elem j k l a.0 h.0, rest k l js a.1 h.1)

count-elem : (k : ℕ) (l : List ℕ) → eqb (count k l) 1 ≡ true → elem k l ≡ true
unfolding count elem
count-elem k l e = go l (eqb-true (count k l) 1 e)
  where
    go : (l : List ℕ) → count k l ≡ 1 → elem k l ≡ true
    go [] = λ e. absurd (omega arith)
    go (x ∷ xs) = by-test (eqb k x) (λ t. rw t (λ e. refl)) (λ t. rw t (λ e. go xs (omega arith)))

true-all : {A : Type 0} (p : A → Bool) (l : List A) → all p l ≡ true → All (λ x. p x ≡ true) l
unfolding all
true-all p [] e = tt
true-all p (x ∷ xs) e = (and_left (p x) (all p xs) e, true-all p xs (and_right (p x) (all p xs) e))

-- "slots each of 0 to d − 1 once": d slots below d that differ are those, and those differ
pub slots-are : (d : ℕ) (slots : List ℕ) → length slots ≡ d → all (λ k. ltb k d) slots ≡ true → distinct slots ≡ true → Permᴰ slots (slots_from 0 d)
unfolding each_once
slots-are d slots l b e =
    let once : each_once d slots ≡ true = each-once d slots l ∙ both (all (λ k. ltb k d) slots) (distinct slots) b e in
    pigeon (slots_from 0 d) slots (slots_apart 0 d)
    (all_map (λ k. eqb (count k slots) 1 ≡ true) (λ k. elem k slots ≡ true) (λ k t. count-elem k slots t) (slots_from 0 d)
    (true-all (λ k. eqb (count k slots) 1) (slots_from 0 d) once))
    (l ∙ sym (length-slots_from 0 d))

apart-elem : (k : ℕ) (l : List ℕ) → All (λ j. j ≢ k) l → elem k l ≡ false
unfolding elem
apart-elem k [] a = refl
apart-elem k (x ∷ xs) a = or-both (eqb k x) (elem k xs) (ne_eqb k x (λ e. a.0 (sym e))) (apart-elem k xs a.1)

apart_distinct : (l : List ℕ) → Apart l → distinct l ≡ true
unfolding distinct
apart_distinct [] a = refl
apart_distinct (x ∷ xs) a = both (not (elem x xs)) (distinct xs) (ap not (apart-elem x xs a.0)) (apart_distinct xs a.1)

pub slots-differ : (d : ℕ) (slots : List ℕ) → Permᴰ slots (slots_from 0 d) → distinct slots ≡ true
slots-differ d slots p = apart_distinct slots (perm-apart (Permᴰ.symm p) (slots_apart 0 d))

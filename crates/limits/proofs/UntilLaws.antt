-- Two runs of boxes that run a policy under two limits: what is one for every policy. A kind of box says by `Serves` that its calls on lent memory are those
-- over its policy; then each call of two runs shows the same until a 9.
use Rattle.std.specs.Prelude.{◌≡◌, refl, Bool, ◌&&◌, cond, ◌≢◌, ℕ, ◌<◌, ◌*◌, eqb, length}
use Rattle.std.proofs.Common.{sym, ap, ◌∙◌, subst₂, eqb-true}
use mathlib.Core.List.{List, [], ◌∷◌}
use Rattle.std.proofs.Math.Option.{none, some}
use Rattle.std.proofs.lemmas.Bool.{eqb-false}
use Rattle.paper.specs.Cache.{Numbers, Hashing, Box, Outcome, Within, no_counts}
use Rattle.paper.specs.KeyedLaws.{All, by-test}
use Rattle.paper.specs.Engine.{Fixed, labelled}
use Rattle.paper.specs.Lent.{Ask, call_of, about_ask, address_of, lent_block, counts, join, block_after, part_after, test, first, other_length, wrong_block}
use Rattle.paper.specs.Lent.{outside, over}
use Rattle.paper.specs.Reports.{width}
use Rattle.paper.specs.Batch.{Batched, start, blocks_in}
use Rattle.paper.specs.BatchLent.{Asking, one, many, report, recount, bad_count, any_outside}
use Rattle.arc.specs.Policy.{Policy}
use Rattle.arc.proofs.PromiseLaws.{Promise}
use Rattle.blind.specs.Serving.{State, served_by, folder_by, served_state}
use Rattle.limits.specs.AsWithout.{Shown, single, folder, number, Kind, UntilNine}
use Rattle.limits.specs.Beside.{capped}
use Rattle.limits.proofs.BesideLaws.{Parallel, Beside, serve-beside, folder-beside}
use Rattle.limits.specs.Until.{Inside, batch_shown, number_by, outcome_shown, refused_shown}

-- where neither is 9 they are the same
same_number : (B P m : ℕ) (o p : Bool) (q : Asking) → number_by B P m o q ≢ 9 → number_by B P m p q ≢ 9 → number_by B P m o q ≡ number_by B P m p q
same_number B P m o p (one q) =
    by-test (wrong_block B (lent_block q))
    (λ e. rw e (λ x y. refl))
    (λ e. rw e (by-test (outside P (address_of q))
    (λ f. rw f (λ x y. refl))
    (λ f. rw f (by-test (counts q && o)
    (λ g. rw g (λ x y. absurd (x refl)))
    (λ g. rw g (by-test (counts q && p) (λ h. rw h (λ x y. absurd (y refl))) (λ h. rw h (λ x y. refl))))))))
same_number B P m o p (many l buffer) =
    by-test (other_length buffer (length l * B))
    (λ e. rw e (λ x y. refl))
    (λ e. rw e (by-test (bad_count l)
    (λ f. rw f (λ x y. refl))
    (λ f. rw f (by-test (any_outside P l)
    (λ g. rw g (λ x y. refl))
    (λ g. rw g (by-test o
    (λ h. rw h (λ x y. absurd (x refl)))
    (λ h. rw h (by-test p (λ i. rw i (λ x y. absurd (y refl))) (λ i. rw i (λ x y. refl))))))))))
same_number B P m o p (report w lent) = λ x y. refl
same_number B P m o p (recount k) = λ x y. refl

module _ {S : Type 0} (B P m : ℕ) (H : Hashing (Fixed 32) (Fixed B)) (pol : Policy (Fixed 32) (Fixed B) S) where
  -- what a served call shows
  abbrev pub served_shown : State (Fixed 32) (Fixed B) S → Asking → Shown
  served_shown s (one q) = outcome_shown q (served_by B H pol s q).outcome
  served_shown s (many l buffer) = batch_shown (folder_by B H pol s l).batched
  served_shown s (report w lent) = number 0
  served_shown s (recount k) = number 0

  -- A kind of box whose calls are those over the policy. `Good` is what holds of lent memory in a state reached.
  pub record Serves {M : Type 0} (kind : Kind M) : Type 1 where
    pub state : M → State (Fixed 32) (Fixed B) S
    pub Good : M → Type 0
    pub numbered : (t : M) (q : Asking) → Good t → kind.number t q ≡ number_by B P m (over (state t).counters) q
    pub inside : (t : M) (q : Asking) → kind.number t q ≡ 0 → Inside B P q
    pub shows : (t : M) (q : Asking) → kind.number t q ≡ 0 → kind.shows t q ≡ served_shown (state t) q
    pub leaves : (t : M) (q : Asking) → kind.number t q ≡ 0 → state (kind.next t q) ≡ served_state B H pol (state t) q
    pub refuses : (t : M) (q : Asking) → kind.number t q ≢ 0 → kind.shows t q ≡ refused_shown (kind.number t q) q
    pub keeps : (t : M) (q : Asking) → kind.number t q ≢ 0 → kind.next t q ≡ t
    pub stays : (t : M) (q : Asking) → Good t → Good (kind.next t q)

module _ {S : Type 0} (N : Numbers) (pol : Policy (Fixed 32) (Fixed N.B) S) (Inv : S → Box (Fixed 32) (Fixed N.B) → Type 0)
    (pr : Promise (labelled N) N pol Inv) (pa : Parallel (labelled N) N pol Inv) (n : ℕ) where
  abbrev H : Hashing (Fixed 32) (Fixed N.B)
  H = labelled N

  abbrev Held : Type 0
  Held = State (Fixed 32) (Fixed N.B) S

  -- two states beside each other, and what two calls show of them and leave
  abbrev pub Near : Held → Held → Type 0
  Near s u = Beside H N pol Inv pr pa n s.kept u.kept s.box u.box

  near-calls : (s u : Held) (q : Asking) → Near s u → Inside N.B N.P q
      → (served_shown N.B N.P N.m H pol s q ≡ served_shown N.B N.P N.m H (capped n pol) u q)
      × Near (served_state N.B H pol s q) (served_state N.B H (capped n pol) u q)
  near-calls s u (one q) k w =
      let o = serve-beside H N pol Inv pr pa n s.kept u.kept s.box u.box k (call_of N.B q) w in
      (ap (λ x. outcome_shown q x.outcome) o.same, o.beside)
  near-calls s u (many l buffer) k w =
      let b = k.boxes in
      let e = k.kept in
      let r = folder-beside H N pol Inv pr pa n (record { kept = s.kept; batched = start s.box s.counters })
      (record { kept = u.kept; batched = start u.box u.counters }) l
      (record { same = λ j. record { kept = e j; batched = start (b j) no_counts }; beside = k }) w in
      (ap (λ x. batch_shown x.batched) r.same, r.beside)
  near-calls s u (report w lent) k i = (refl, k)
  near-calls s u (recount c) k i = (refl, k)

  module _ {M : Type 0} (a b : Kind M) (sa : Serves N.B N.P N.m H pol a) (sb : Serves N.B N.P N.m H (capped n pol) b) where
    pub record Like (t u : M) : Type 0 where
      pub good : sa.Good t
      pub good' : sb.Good u
      pub near : Near (sa.state t) (sb.state u)

    number-like : (t u : M) (q : Asking) → Like t u → a.number t q ≢ 9 → b.number u q ≢ 9 → a.number t q ≡ b.number u q
    number-like t u q k x y =
        let e = sa.numbered t q k.good in
        let f = sb.numbered u q k.good' in
        e ∙ same_number N.B N.P N.m (over (sa.state t).counters) (over (sb.state u).counters) q (λ z. x (e ∙ z)) (λ z. y (f ∙ z)) ∙ sym f

    -- a call that gets the same number shows the same, and leaves the like
    next_like : (t u : M) (q : Asking) → Like t u → a.number t q ≡ b.number u q
        → (a.shows t q ≡ b.shows u q) × Like (a.next t q) (b.next u q)
    next_like t u q k e =
        by-test (eqb (a.number t q) 0)
        (λ y.
        let z = eqb-true (a.number t q) 0 y in
        let z' = sym e ∙ z in
        let c = near-calls (sa.state t) (sb.state u) q k.near (sa.inside t q z) in (
          sa.shows t q z ∙ c.0 ∙ sym (sb.shows u q z'),
          record {
            good = sa.stays t q k.good;
            good' = sb.stays u q k.good';
            near = subst₂ Near (sym (sa.leaves t q z)) (sym (sb.leaves u q z')) c.1;
          },
        ))
        (λ y.
        let z = eqb-false (a.number t q) 0 y in
        let z' : b.number u q ≢ 0 = λ w. z (e ∙ w) in (
          sa.refuses t q z ∙ ap (λ x. refused_shown x q) e ∙ sym (sb.refuses u q z'),
          subst₂ Like (sym (sa.keeps t q z)) (sym (sb.keeps u q z')) k,
        ))

    pub until-nine : (t u : M) (qs : List Asking) → Like t u → UntilNine a b t u qs
    unfolding UntilNine
    until-nine t u [] k = tt
    until-nine t u (q ∷ qs) k = λ x y.
        let c = next_like t u q k (number-like t u q k x y) in
        (c.0, until-nine (a.next t q) (b.next u q) qs c.1)

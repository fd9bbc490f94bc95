-- What is written of an answer, of a folder read's, of an opening and of a look's place, in numbers and bytes. Assumes nothing.
use Rattle.std.specs.Prelude.{cond, List, ℕ, ◌*◌, eqb, Result, Ok, Err}
use Rattle.paper.specs.Cache.{Counters}
use Rattle.paper.specs.Lent.{Answer, refused, answered}
use Rattle.paper.specs.BatchLent.{BatchAnswer, batched}
use Rattle.look.specs.declared.Place.{Place}
use Rattle.look.specs.declared.Place.TheVariants.{Flash, Disk}
use Rattle.fields.specs.Fields.{put8, put_state, put_label, put_answer, put_many, word_number}

-- ---- what an answer of the paper is in numbers and bytes

-- the number returned: that of the refusal, 0 where the call is served
abbrev pub answer_number : Answer → ℕ
answer_number (refused k) = k
answer_number (answered w f p) = 0

-- the state: a refused call keeps it
abbrev pub state_after : Answer → ℕ → Counters → List ℕ → List ℕ
state_after (refused k) n c s = s
state_after (answered w f p) n c s = put_state n c s

-- the answer's bytes: a refused call keeps them
abbrev pub answer_after : Answer → List ℕ → List ℕ
answer_after (refused k) l = l
answer_after (answered w f p) l = put_answer (word_number w) f p l

-- the number, the state and the answer's bytes
pub record Noted : Type 0 where
  pub number : ℕ
  pub state : List ℕ
  pub answer : List ℕ

abbrev pub noted : Answer → ℕ → Counters → (state answer : List ℕ) → Noted
noted a n c s l = record { number = answer_number a; state = state_after a n c s; answer = answer_after a l }

-- ---- a folder read

abbrev pub many_number_of : BatchAnswer → ℕ
many_number_of (BatchAnswer.refused k) = k
many_number_of (batched h f p n) = 0

abbrev pub many_state_after : BatchAnswer → ℕ → Counters → List ℕ → List ℕ
many_state_after (BatchAnswer.refused k) n c s = s
many_state_after (batched h f p m) n c s = put_state n c s

abbrev pub many_answer_after : BatchAnswer → List ℕ → List ℕ
many_answer_after (BatchAnswer.refused k) l = l
many_answer_after (batched h f p n) l = put_many h f p n l

abbrev pub noted_many : BatchAnswer → ℕ → Counters → (state answer : List ℕ) → Noted
noted_many a n c s l = record { number = many_number_of a; state = many_state_after a n c s; answer = many_answer_after a l }

-- ---- opening

-- the state: a refused opening writes n and the label, not the counters
abbrev pub state_opened : (number n : ℕ) → Counters → (label : List ℕ) → List ℕ → List ℕ
state_opened number n k label s = put_label label (cond (eqb number 0) (put_state n k s) (put8 32 n s))

-- ---- look

pub record LeftLook : Type 0 where
  pub number : ℕ
  pub answer : List ℕ

-- where the part starts, of a place or the number of a refusal
abbrev pub start_of : (B a : ℕ) → Result Place ℕ → ℕ
start_of B a (Err k) = 0
start_of B a (Ok (Flash s)) = s.0 * B
start_of B a (Ok Disk) = a * B

-- a refused look keeps the answer's bytes
abbrev pub noted_place : (B a : ℕ) → List ℕ → Result Place ℕ → LeftLook
noted_place B a l (Err k) = record { number = k; answer = l }
noted_place B a l (Ok (Flash s)) = record { number = 0; answer = put_answer 5 (s.0 * B) B l }
noted_place B a l (Ok Disk) = record { number = 0; answer = put_answer 6 (a * B) B l }

-- Replay byte by byte: what is known after some bytes of the input, and what the next one prints. Assumes nothing.
use Rattle.std.specs.Prelude.{ℕ, Option, cond, not, ◌||◌, List, [], ◌∷◌, ◌++◌, length, ◌==◌, nat_lt}
use Rattle.paper.specs.Cache.{Numbers}
use Rattle.paper.specs.Lent.{Lent, refused}
use Rattle.lines.specs.Lines.{parsed}
use Rattle.lines.specs.declared.Command.{Command}
use Rattle.print.specs.Texts.{answer_text, counters_text}
use Rattle.session.specs.declared.Stage.{Stage}
use Rattle.session.specs.declared.Stage.TheVariants.{Before, Open, Over}
use Rattle.answers.specs.Replay.{box_refusal, box_numbers, started, asked, doing, next}

-- the stage as a number: 0 before line 1 has ended, 1 while the box is open, and above that when nothing more is printed
abbrev pub stage_number : Stage → ℕ
stage_number Before = 0
stage_number Open = 1
stage_number Over = 2

-- the stage of a number
abbrev pub stage_of : ℕ → Stage
stage_of n = cond (n == 0) Before (cond (n == 1) Open Over)

-- Of a line 33 bytes are kept: so many show that it is too long.
pub record State : Type 0 where
  pub stage : Stage
  pub kept : List ℕ
  pub number : ℕ
  pub numbers : Numbers
  pub lent : Lent

pub record Replied : Type 0 where
  pub state : State
  pub text : List ℕ

abbrev pub quiet : State → Replied
quiet s = record { state = s; text = [] }

-- line 1
unfoldable pub first_line : State → Option Command → Replied
first_line s c =
    cond (box_refusal c == 0)
    (record { state = record { stage = Open; kept = []; number = 1; numbers = box_numbers c; lent = started (box_numbers c) }; text = [] })
    (record {
      state = record { stage = Over; kept = []; number = s.number; numbers = s.numbers; lent = s.lent };
      text = answer_text 0 c (refused (box_refusal c));
    })

-- a later line
unfoldable pub later_line : State → Option Command → Replied
later_line s c =
    let o = doing s.numbers s.lent (asked s.numbers c) in
    record {
      state = record { stage = Open; kept = []; number = next s.number; numbers = s.numbers; lent = o.lent };
      text = answer_text s.number c o.answer;
    }

-- the end of a line
unfoldable pub end_line : State → Replied
end_line s = cond (stage_number s.stage == 0) (first_line s (parsed s.kept)) (cond (stage_number s.stage == 1) (later_line s (parsed s.kept)) (quiet s))

-- another byte of it
unfoldable pub keep : ℕ → State → State
keep x s = record {
  stage = s.stage;
  kept = cond (nat_lt (length s.kept) 33) (s.kept ++ (x ∷ [])) s.kept;
  number = s.number;
  numbers = s.numbers;
  lent = s.lent;
}

unfoldable pub byte_in : ℕ → State → Replied
byte_in x s = cond (x == 10) (end_line s) (quiet (keep x s))

-- the end of the input: the line that has begun, or line 1 if none has, and then the counters
unfoldable pub last_line : State → Replied
last_line s = cond (stage_number s.stage == 0 || not (length s.kept == 0)) (end_line s) (quiet s)

unfoldable pub at_end : State → Replied
at_end s = let o = last_line s in record { state = o.state; text = o.text ++ cond (stage_number o.state.stage == 1) (counters_text o.state.lent.counters) [] }

-- all that is printed for the bytes that follow
unfoldable pub rest : State → List ℕ → List ℕ
rest s [] = (at_end s).text
rest s (x ∷ xs) = (byte_in x s).text ++ rest (byte_in x s).state xs

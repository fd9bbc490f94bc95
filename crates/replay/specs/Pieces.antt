-- What the code prints for an input fed byte by byte is the replay of the whole input: by induction on the input. Assumes nothing.
use Rattle.std.specs.Prelude.{◌≡◌, true, List, [], ◌∷◌, ◌++◌, ℕ, take}
use Rattle.std.proofs.Common.{ap, ap₂, ◌∙◌}
use Rattle.answers.specs.Replay.{replay}
use Rattle.session.specs.Bytewise.{rest}
use Rattle.replay.specs.BytewiseLaws.{rest-replays}
use Rattle.session.specs.declared.Stage.TheVariants.{Before}
use Rattle.session.specs.Memory.{Memory, FedMemory, fits, state_in, fed, ended}
use Rattle.session.specs.MemoryLaws.{fed-state, fed-fits, fed-text, ended-text}

-- the text that a byte, or the end, puts into the output
abbrev pub text_of : FedMemory → List ℕ
text_of a = take a.filled a.memory.out

-- all that is printed for the bytes that follow
unfoldable pub printed : Memory → List ℕ → List ℕ
printed M [] = text_of (ended M)
printed M (x ∷ xs) = text_of (fed x M) ++ printed (fed x M).memory xs

-- a session before the first byte, in buffers that hold any bytes
pub record Ready (M : Memory) : Type 0 where
  pub fitting : fits M ≡ true
  pub stage : M.session.stage ≡ Before
  pub kept : M.session.kept ≡ 0

-- the state in memory prints the same
printed-rest : (M : Memory) (input : List ℕ) → fits M ≡ true → printed M input ≡ rest (state_in M) input
unfolding printed rest
printed-rest M [] h = ended-text M h
printed-rest M (x ∷ xs) h = ap₂ ◌++◌ (fed-text M h x) (printed-rest (fed x M).memory xs (fed-fits M h x) ∙ ap (λ s. rest s xs) (fed-state M h x))

-- The theorem: for every input, fed to any memory that is ready
pub replays : (M : Memory) (input : List ℕ) → Ready M → printed M input ≡ replay input
unfolding state_in
replays M input r = printed-rest M input r.fitting ∙ rest-replays (state_in M) input r.stage (ap (λ k. take k M.line) r.kept)

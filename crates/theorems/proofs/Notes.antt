-- No station of a one-step run has a note but a block, and each note has a count for each tray.
-- Assumes nothing.
use Prim.Native.Nat.{ℕ, ◌-◌}
use mathlib.Core.Path.{◌≡◌, refl, ◌∙◌}
use mathlib.Core.Bool.{Bool, true, false, cond}
use mathlib.Core.Option.{Option, none, some, Option-elim}
use mathlib.Core.List.{List, [], ◌∷◌, ◌++◌, map}
use lib.ListN.{length, get_elem?, set, length-set}
use Rattle.calculus.specs.Syntax.{Name, Log, State}
use Rattle.calculus.specs.State.{count, without}
use Rattle.calculus.specs.Log.{RD, WT}
use Rattle.semantics.specs.Definitions.Basics.{All, replace_at}
use Rattle.semantics.specs.Definitions.Terms.{Expression}
use Rattle.semantics.specs.Definitions.Logs.{readable, first_readable, add_token, take_token}
use Rattle.semantics.specs.Definitions.Configuration.{Idle, taking, repeating, block, output, opens}
use Rattle.semantics.specs.Definitions.Moves.{Entry, act, inside}
use Rattle.semantics.specs.Definitions.AtomicRun.{WithNote, Atomic, without_note, atomic_start, replace_component, end_attempt, step_block, step_component, atomic_step, atomic_run}
use Rattle.semantics.specs.Checks.Notes.{MayHave, BlocksAlone, NotesAtBlocks}
use Rattle.theorems.proofs.GoodTable.{tokens_are_counts}
use Rattle.theorems.proofs.Lists.{all_every, all_map, all_replace_at}

abbrev Noted : WithNote State → Type 0
Noted x = MayHave x.station x.note

-- 16 counts, and notes as they should be
abbrev Sound : Atomic State → Type 0
Sound s = (length s.counts ≡ 16) × BlocksAlone s

-- ---- as many counts stay

without_length : (σ : State) (bs : List Name) → length (without σ bs) ≡ length σ
unfolding without
without_length σ [] = refl
without_length σ (b ∷ bs) = without_length (set σ b (count σ b - 1)) bs ∙ simp length-set refl

add_length : (σ : State) (a : Name) → length (add_token σ a) ≡ length σ
unfolding add_token
add_length σ a = simp length-set refl

take_length : (σ : State) (a : Name) → length (take_token σ a) ≡ length σ
unfolding take_token
take_length σ a = without_length σ (a ∷ [])

-- ---- stations that are laid down come without notes

laid : (cs : List Idle) → All Noted (map without_note cs)
unfolding without_note
laid cs = all_map without_note Noted cs (all_every (λ c. Noted (without_note c)) (λ c. tt) cs)

replaced : (xs : List (WithNote State)) (p : ℕ) (cs : List Idle) → All Noted xs →
    All Noted (replace_at p (map without_note cs) xs)
replaced xs p cs h = all_replace_at Noted xs (map without_note cs) p h (laid cs)

-- ---- a step

either : (b : Bool) (x y : Atomic State) → Sound x → Sound y → Sound (cond b x y)
either true x y h k = h
either false x y h k = k

ended : (s : Atomic State) (p n : ℕ) (M : Expression) (path : Option Log) → Sound s → Sound (end_attempt s p n M path)
unfolding end_attempt replace_component
ended s p n M none h = (h.0, replaced s.stations p (block n M ∷ []) h.1)
ended s p n M (some δ) h =
    either (readable s.counts δ) _ _
    (without_length s.counts (RD δ) ∙ h.0, replaced s.stations p (map output (WT δ)) h.1)
    (h.0, replaced s.stations p (block n M ∷ []) h.1)

blocked : (s : Atomic State) (p n : ℕ) (M : Expression) (m : Option State) → Sound s →
    Sound (step_block (λ σ. σ) (λ σ. σ) s p n M m)
unfolding step_block
blocked s p n M none h = (
  h.0,
  all_replace_at Noted s.stations (record { station = block n M; note = some s.counts } ∷ []) p h.1 (h.0, tt),
)
blocked s p n M (some m) h = ended s p n M (first_readable m M) h

acted : (s : Atomic State) (p : ℕ) (c : Idle) (m : Option State) → Sound s →
    Sound (step_component (λ σ. σ) (λ σ. σ) s p c m)
unfolding step_component replace_component
acted s p (output a) m h = (add_length s.counts a ∙ h.0, replaced s.stations p [] h.1)
acted s p (taking n a P) m h = (take_length s.counts a ∙ h.0, replaced s.stations p (opens P) h.1)
acted s p (repeating n a P) m h =
    (take_length s.counts a ∙ h.0, replaced s.stations p (opens P ++ (repeating n a P ∷ [])) h.1)
acted s p (block n M) m h = blocked s p n M m h

stepped : (s : Atomic State) (e : Entry) → Sound s → Sound (atomic_step (λ σ. σ) (λ σ. σ) s e)
unfolding atomic_step Option-elim
stepped s (inside p k) h = h
stepped s (act p) h = go (get_elem? s.stations p)
  where
    go : (x : Option (WithNote State)) →
        Sound (Option-elim x s (λ y. step_component (λ σ. σ) (λ σ. σ) s p y.station y.note))
    go none = h
    go (some y) = acted s p y.station y.note h

runs : (s : Atomic State) (es : List Entry) → Sound s → BlocksAlone (atomic_run s es)
unfolding atomic_run
runs s [] h = h.1
runs s (e ∷ es) h = runs (atomic_step (λ σ. σ) (λ σ. σ) s e) es (stepped s e h)

pub notes_at_blocks : NotesAtBlocks
unfolding NotesAtBlocks atomic_start
notes_at_blocks bs t b e c es =
    runs (atomic_start t c) es ((tokens_are_counts bs t b e).0, laid (opens t.start))

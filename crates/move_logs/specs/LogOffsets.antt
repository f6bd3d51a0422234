-- Where logs and counts stand in the bytes of a hall.
-- Assumes nothing.
use Rattle.std.specs.Prelude.{ℕ, ◌≤◌, ◌<◌, ◌≡◌, List, map, length, take, drop}
use Rattle.calculus.specs.Syntax.{Log, State}
use Rattle.semantics.specs.Definitions.Basics.{padded, All}
use Rattle.semantics.specs.Definitions.Layout.{channels, max_actions}
use Rattle.semantics.specs.Definitions.Stored.{action_byte, channel_of}

-- the 16 bytes from an offset on store this log, of at most 16 actions on the channels that there are
pub record LogAt (s : List ℕ) (at : ℕ) (δ : Log) : Type 0 where
  pub bytes : take max_actions (drop at s) ≡ padded max_actions (map action_byte δ)
  pub few : length δ ≤ max_actions
  pub named : All (λ α. channel_of α < channels) δ

-- the 16 bytes from an offset on are these counts
pub record CountsAt (s : List ℕ) (at : ℕ) (σ : State) : Type 0 where
  pub bytes : take channels (drop at s) ≡ σ
  pub channel_counts : length σ ≡ channels

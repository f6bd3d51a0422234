-- How long the parts of a sentence are at most.
-- Assumes nothing.
use Rattle.std.specs.Prelude.{ℕ}

-- of bytes: a choice, what was short, and all of a reply
abbrev pub choice_most : ℕ
choice_most = 33

abbrev pub short_most : ℕ
short_most = 23

abbrev pub reply_most : ℕ
reply_most = 61

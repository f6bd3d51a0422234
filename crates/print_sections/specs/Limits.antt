-- How long the lines of a printed run are at most, and all of them together.
-- Assumes nothing.
use Rattle.std.specs.Prelude.{ℕ, ◌+◌, ◌*◌}
use Rattle.hall_layout.specs.Layout.{channels, max_components}

-- `R`: a byte, and two numbers of at most 20 digits
abbrev pub run_most : ℕ
run_most = 48

-- `C`: three numbers of at most 10 digits
abbrev pub counters_most : ℕ
counters_most = 35

-- `T`: a number below 100, two bytes, and a byte with a sign
abbrev pub channel_most : ℕ
channel_most = 18

-- `A`, the longest of a component's (station's) lines: a byte, and a number below 100
abbrev pub component_most : ℕ
component_most = 9

abbrev pub channels_most : ℕ
channels_most = channel_most * channels

abbrev pub components_most : ℕ
components_most = component_most * max_components

-- 947: the lines of a run
abbrev pub lines_most : ℕ
lines_most = run_most + (counters_most + (channels_most + components_most))

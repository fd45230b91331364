-- What stands at the start of a turn.
use Rattle.std.specs.Prelude.{ℕ, None}
use Rattle.turn_exec.specs.declared.guest_turn.Outward.{Outward}

-- so many outward calls were granted, and none was refused
abbrev pub begun : ℕ → Outward
begun calls = record { calls = calls; refused = None; denied = None; sent = None }

abbrev pub nothing : Outward
nothing = begun 0

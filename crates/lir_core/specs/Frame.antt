-- How many bytes the frame of a call takes, what lies where in it, and how much a routine takes.
use Rattle.std.specs.Prelude.{◌≡◌, ℕ, ◌+◌, ◌*◌, ◌%◌, ◌≤◌}

-- the bytes at the begin of a frame that belong to the machine alone
abbrev pub fixed_bytes : ℕ
fixed_bytes = 128

-- how many slots stand below those of the arguments, for values within an instruction
abbrev pub scratch_slots : ℕ
scratch_slots = 8

-- what a frame can take: at least its fixed bytes and the scratch slots, and so many that frames stay aligned
pub record IsFrameSize (bytes : ℕ) : Type 0 where
  pub least : fixed_bytes + 8 * scratch_slots ≤ bytes
  pub greatest : bytes ≤ 65536
  pub aligned : bytes % 16 ≡ 0

-- how many words a routine of the runtime takes at most
abbrev pub most_passed : ℕ
most_passed = 8

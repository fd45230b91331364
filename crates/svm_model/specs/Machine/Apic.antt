-- The local APIC (volume 2, 'Advanced Programmable Interrupt Controller (APIC)'): its registers, the interrupts that it
-- accepts and gives, its timer, and the interprocessor interrupts that it sends. Timers count events.
use Rattle.std.specs.Prelude.{ℕ, ◌-◌, ◌*◌, ◌/◌, ◌%◌, ◌^◌, suc, zero, nat_le, nat_lt, List, [], ◌∷◌, Bool, ◌==◌, ◌&&◌, ◌||◌, not, if◌then◌else◌, Option, Some, None, replicate, slice_index, slice_set, bit_and, bit_or}
use Rattle.svm_model.specs.Memory.Bits.{bit}

-- LDR by its bits 31:24, DFR by its bits 31:28; the words of the local vector table, the timer's first; bit v of a set of
-- vectors is bit v mod 8 of byte v/8
pub record Apic : Type 0 where
  pub id : ℕ
  pub tpr : ℕ
  pub ldr : ℕ
  pub dfr : ℕ
  pub svr : ℕ
  pub icr_low : ℕ
  pub icr_high : ℕ
  pub lvt : List ℕ
  pub count : ℕ
  pub divide : ℕ
  pub start : ℕ
  pub isr : List ℕ
  pub irr : List ℕ

-- no vector
abbrev pub no_vectors : List ℕ
no_vectors = replicate 32 0

abbrev pub first_apic : ℕ → Apic
first_apic id = record {
  id = id;
  tpr = 0;
  ldr = 0;
  dfr = 15;
  svr = 0xFF;
  icr_low = 0;
  icr_high = 0;
  lvt = replicate 6 0x10000;
  count = 0;
  divide = 0;
  start = 0;
  isr = no_vectors;
  irr = no_vectors;
}

-- Sets of vectors.

abbrev pub has_vector : List ℕ → ℕ → Bool
has_vector set vector = bit (vector % 8) (slice_index set (vector / 8))

abbrev pub with_vector : List ℕ → ℕ → List ℕ
with_vector set vector = slice_set set (vector / 8) (bit_or (slice_index set (vector / 8)) (2 ^ (vector % 8)))

abbrev pub without_vector : List ℕ → ℕ → List ℕ
without_vector set vector = slice_set set (vector / 8) (bit_and (slice_index set (vector / 8)) (255 - 2 ^ (vector % 8)))

-- the highest vector below a bound
unfoldable pub highest_below : ℕ → List ℕ → Option ℕ
highest_below zero set = None
highest_below (suc vector) set = if has_vector set vector then Some vector else highest_below vector set

abbrev pub highest : List ℕ → Option ℕ
highest set = highest_below 256 set

-- Priorities ('Interrupt Priority').

abbrev pub class_of : ℕ → ℕ
class_of vector = vector / 16

-- the class of the highest interrupt in service
abbrev pub class_in_service : Option ℕ → ℕ
class_in_service None = 0
class_in_service (Some vector) = class_of vector

-- PPR: TPR, or the class of the highest interrupt in service where that is above it
abbrev pub processor_priority : Apic → ℕ
processor_priority a =
    let class = class_in_service (highest a.isr) in if nat_le class (class_of a.tpr) then a.tpr else 16 * class

abbrev pub above : ℕ → Option ℕ → Option ℕ
above priority None = None
above priority (Some vector) = if nat_lt (class_of priority) (class_of vector) then Some vector else None

-- the vector that may be taken: the highest one that was accepted, where its class exceeds that of PPR
unfoldable pub pending : Apic → Option ℕ
pending a = above (processor_priority a) (highest a.irr)

abbrev pub in_service : Apic → Option ℕ → Apic
in_service a None = a
in_service a (Some vector) = record a { irr = without_vector a.irr vector; isr = with_vector a.isr vector }

-- it is taken: from IRR to ISR
unfoldable pub taken : Apic → Apic
taken a = in_service a (pending a)

-- SVR, bit 8: the APIC is enabled
abbrev pub is_enabled : Apic → Bool
is_enabled a = bit 8 a.svr

-- a vector below 16 is dropped, and so is any where the APIC is not enabled
abbrev pub is_accepted : Apic → ℕ → Bool
is_accepted a vector = nat_le 16 vector && is_enabled a

unfoldable pub accepted : Apic → ℕ → Apic
accepted a vector = if is_accepted a vector then record a { irr = with_vector a.irr vector } else a

-- an interrupt is over: the highest one in service
abbrev pub out_of_service : Apic → Option ℕ → Apic
out_of_service a None = a
out_of_service a (Some vector) = record a { isr = without_vector a.isr vector }

-- The timer ('APIC Timer').

-- what the divide register divides by
abbrev pub divisor : ℕ → ℕ
divisor divide = slice_index (2 ∷ 4 ∷ 8 ∷ 16 ∷ 1 ∷ 1 ∷ 1 ∷ 1 ∷ 32 ∷ 64 ∷ 128 ∷ 1 ∷ []) divide

abbrev pub timer_word : Apic → ℕ
timer_word a = slice_index a.lvt 0

abbrev pub is_masked : ℕ → Bool
is_masked word = bit 16 word

abbrev pub is_periodic : ℕ → Bool
is_periodic word = bit 17 word

-- how many events a run of the timer takes
abbrev pub span : Apic → ℕ
span a = a.count * divisor a.divide

-- it is due once at the end of its run, and where it is periodic at the end of each
unfoldable pub is_due : Apic → ℕ → Bool
is_due a event =
    nat_lt 0 a.count && nat_lt a.start event
    && ((event - a.start == span a) || (is_periodic (timer_word a) && ((event - a.start) % span a == 0)))

unfoldable pub expired : Apic → ℕ → Apic
expired a event = if is_due a event && not (is_masked (timer_word a)) then accepted a (timer_word a % 256) else a

-- the current count
unfoldable pub current_count : Apic → ℕ → ℕ
current_count a event =
    let steps = (event - a.start) / divisor a.divide in
    if a.count == 0 then 0 else if is_periodic (timer_word a) then a.count - steps % a.count else a.count - steps

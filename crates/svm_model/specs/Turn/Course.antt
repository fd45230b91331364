-- The course of a turn: what the turn wants of the linear memory, of the ports and of its APIC, one step after another, and
-- what comes of it. A part that was translated has a number, so a course sees numbers and words and never a frame: it is the
-- same course over a guest's memory and over host memory. `play` gives it its meaning, and tells what was done.
use Rattle.std.specs.Prelude.{ℕ, List, ◌∷◌, Bool, Option, Result}
use Rattle.svm_model.specs.Machine.Apic.{Apic}
use Rattle.svm_model.specs.Machine.Bus.{Bus}
use Rattle.svm_model.specs.declared.vcpus.Vcpu.{Vcpu}
use Rattle.svm_model.specs.Memory.NestedPaging.{walked_over}
use Rattle.svm_model.specs.Svm.Vmcb.{Fields, FieldValue}
use Rattle.svm_model.specs.declared.apics.Ipi.{Ipi}
use Rattle.svm_model.specs.declared.names.Access.{Access}
use Rattle.svm_model.specs.declared.page_tables.Nested.{Nested}
use Rattle.svm_model.specs.declared.page_tables.Pass.{Pass}
use Rattle.svm_model.specs.declared.ports.PortWrite.{PortWrite}
use Rattle.svm_model.specs.declared.system.Flush.{Flush}
use Rattle.svm_model.specs.declared.turns.ApicAnswer.{ApicAnswer}
use Rattle.svm_model.specs.declared.turns.Part.{Part}
use Rattle.svm_model.specs.declared.turns.Space.{Space}
use Rattle.svm_model.specs.declared.turns.Stepped.{Stepped}
use Rattle.svm_model.specs.declared.turns.Translation.{Translation}
use Rattle.svm_model.specs.declared.windows.OutsideMemory.{OutsideMemory}

pub data Course : Type 0 where
  -- the turn is over
  Done : (vcpu : Vcpu) (stepped : Stepped) → Course
  -- the translations so far are let go: the next one has number 0
  Release : (next : Course) → Course
  -- the part is translated; one that is there gets the next number
  Translate : (part : Part) (next : Translation → Course) → Course
  -- so many bytes are read in a part's page, from the offset of this linear address on
  Read : (number address count : ℕ) (next : List ℕ → Course) → Course
  -- bytes are written there
  Write : (number address : ℕ) (bytes : List ℕ) (next : Course) → Course
  -- so many bytes of a permission map are looked at, by their physical address
  Look : (address count : ℕ) (next : Result (List ℕ) OutsideMemory → Course) → Course
  -- translations that copies are kept of are dropped; the course learns whether that is done
  Drop : (flush : Flush) (next : Bool → Course) → Course
  -- a port is read, by so many bytes
  In : (port width : ℕ) (next : ℕ → Course) → Course
  -- a port is written to; the course learns whether the bus takes it
  Out : (write : PortWrite) (next : Bool → Course) → Course
  -- a register of the vcpu's APIC is read, or written by 32 bits, in this event
  ApicRead : (offset event : ℕ) (next : ApicAnswer → Course) → Course
  ApicWrite : (offset value event : ℕ) (next : ApicAnswer → Course) → Course
  -- the APIC's pending interrupt is taken
  Take : (next : Course) → Course
  -- the APIC's task priority is set
  Priority : (tpr : ℕ) (next : Course) → Course

-- How a turn's accesses are translated, and which of its outward calls is refused, by its number. An outward call is one that
-- another may refuse: the notice of an access or of a flush, a write to a port, and the notices of a VMCB. None is refused in
-- the runs that are defined here. A turn that is cut off is one of whose calls one was refused: what it has reached is what
-- playing it on then gives, since each course that learns of a refusal goes to its end at once.
pub record Way : Type 0 where
  pub space : Space
  pub refused : Option ℕ

-- What stands about a vcpu: the bus of its ports, its APIC, the interprocessor interrupt that it has sent, how many outward
-- calls were granted, whether one was refused, and the write to a port that it was, where it was one.
pub record Board : Type 0 where
  pub bus : Bus
  pub apic : Apic
  pub sent : Option Ipi
  pub calls : ℕ
  pub cut : Bool
  pub denied : Option PortWrite

-- What a turn did that copies have to do with, in order; what was refused is told too.
pub data Told : Type 0 where
  -- an access was walked for, under CR0.WP, with its passes through the outer tables
  Accessed : (asid : ℕ) (write_protect : Bool) (access : Access) (answer : Nested) (passed : List Pass) → Told
  Flushed : (flush : Flush) → Told
  -- the fields of a VMCB were found in memory: at a VMRUN, or at a turn inside it
  Found : (vmcb : ℕ) (entering : Bool) (found : Fields) → Told
  -- a #VMEXIT stored these fields of a VMCB
  Left : (vmcb : ℕ) (stored : List FieldValue) → Told

-- what an access in a space tells
abbrev pub told_of : Space → List ℕ → Access → Told
told_of space memory access =
    let reached = walked_over space.outer memory space.paging access in Accessed space.asid space.paging.write_protect access reached.answer reached.passes

-- what playing a course gives
pub record Turned : Type 0 where
  pub memory : List ℕ
  pub board : Board
  pub vcpu : Vcpu
  pub stepped : Stepped
  pub told : List Told

-- what comes after a thing that was told of
abbrev pub after : Told → Turned → Turned
after told turned = record {
  memory = turned.memory;
  board = turned.board;
  vcpu = turned.vcpu;
  stepped = turned.stepped;
  told = told ∷ turned.told;
}

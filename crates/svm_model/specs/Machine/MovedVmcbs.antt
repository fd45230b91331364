-- VMRUN, VMLOAD and VMSAVE on the plain machine: they read and write a VMCB in guest memory.
use Rattle.std.specs.Prelude.{ℕ, ◌==◌, List, [], true, false, if◌then◌else◌, Option, Some, None, Result, Ok, Err}
use Rattle.svm_model.specs.Memory.Bits.{bit}
use Rattle.svm_model.specs.Turn.Course.{Flushed, Found, Left, Turned, Way}
use Rattle.svm_model.specs.Svm.Intercepts.{invalid_exit}
use Rattle.svm_model.specs.Instructions.Operands.{rax, whole_register}
use Rattle.svm_model.specs.Svm.Vmexit.{host_registers, left_vcpu, stored_exit}
use Rattle.svm_model.specs.Svm.VmloadVmsave.{moved_at, vmloaded, vmsaved}
use Rattle.svm_model.specs.Svm.Vmrun.{entered}
use Rattle.svm_model.specs.Svm.Vmcb.{Fields, FieldValue, fields_at, fields_in, value, with_fields}
use Rattle.svm_model.specs.Svm.VmcbRules.{broken, unoffered_mode}
use Rattle.svm_model.specs.declared.names.End.TheVariants.{OutsideMemory, Mode}
use Rattle.svm_model.specs.declared.register_file.Registers.{Registers}
use Rattle.svm_model.specs.declared.rows.Op.{Op}
use Rattle.svm_model.specs.declared.rows.Op.TheVariants as op
use Rattle.svm_model.specs.declared.system.Flush.{Flush}
use Rattle.svm_model.specs.declared.system.Flush.TheVariants as flush
use Rattle.svm_model.specs.declared.turns.Facts.{Facts}
use Rattle.svm_model.specs.declared.turns.Stepped.TheVariants.{Went, Ends}
use Rattle.svm_model.specs.declared.vmcbs.Field.TheVariants as f
use Rattle.svm_model.specs.declared.vmcbs.Offered.{Offered}
use Rattle.svm_model.specs.declared.windows.OutsideMemory.{OutsideMemory as OutsideAt}
use Rattle.svm_model.specs.Machine.Notices.{over, finished, noticed}

-- VMRUN.

-- an illegal VMCB: nothing is loaded, and the exit is told in it
abbrev pub refused_vmrun : ℕ → ℕ → List FieldValue → Turned → Turned
refused_vmrun vmcb next_rip stored t =
    over (with_fields vmcb stored t.memory) t.board (left_vcpu (host_registers (record t.vcpu.registers { rip = next_rip })) t.vcpu) Went []

abbrev pub exited_at_once : Way → Turned → ℕ → ℕ → Fields → Turned
exited_at_once way turned vmcb next_rip v =
    let stored = stored_exit invalid_exit None v in noticed way (Left vmcb stored) turned (refused_vmrun vmcb next_rip stored)

-- TLB_CONTROL: 1 all, 3 all of the ASID, 7 what of it is not global (volume 2, 'TLB Flush')
abbrev pub flush_of : ℕ → ℕ → Option Flush
flush_of control asid =
    if control == 1 then Some flush.All
    else if control == 3 then Some (flush.Whole asid)
    else if control == 7 then Some (flush.Local asid)
    else None

abbrev pub entered_turn : ℕ → ℕ → Fields → Turned → Turned
entered_turn vmcb next_rip v t = over t.memory t.board (entered v vmcb next_rip t.vcpu) Went []

abbrev pub behind_flush : Way → Turned → Option Flush → (Turned → Turned) → Turned
behind_flush way turned None next = next turned
behind_flush way turned (Some flush) next = noticed way (Flushed flush) turned next

abbrev pub on_mode : Way → Turned → ℕ → ℕ → Fields → Option ℕ → Turned
on_mode way turned vmcb next_rip v None = behind_flush way turned (flush_of (value v f.TlbControl) (value v f.Asid)) (entered_turn vmcb next_rip v)
on_mode way turned vmcb next_rip v (Some rule) = over turned.memory turned.board turned.vcpu (Ends (Mode rule)) []

abbrev pub on_broken : Way → Turned → ℕ → ℕ → Fields → Option ℕ → Turned
on_broken way turned vmcb next_rip v None = on_mode way turned vmcb next_rip v (unoffered_mode v)
on_broken way turned vmcb next_rip v (Some rule) = exited_at_once way turned vmcb next_rip v

-- 16 address-space identifiers, and flushes by them where the image's feature word has bit 0
abbrev pub offered_to_l1 : Facts → Offered
offered_to_l1 facts = record { asids = 16; flush_by_asid = bit 0 facts.features }

abbrev pub vmrun : Way → Facts → Turned → ℕ → ℕ → Result Fields OutsideAt → Turned
vmrun way facts turned vmcb next_rip (Err outside) = over turned.memory turned.board turned.vcpu (Ends (OutsideMemory outside.address)) []
vmrun way facts turned vmcb next_rip (Ok v) =
    noticed way (Found vmcb true v) turned (λ t. on_broken way t vmcb next_rip v (broken v (offered_to_l1 facts)))

-- VMLOAD and VMSAVE.

abbrev pub at_next : Registers → ℕ → Registers
at_next r next_rip = record r { rip = next_rip; shadow = false }

abbrev pub moved_outside : Turned → ℕ → Turned
moved_outside turned address = over turned.memory turned.board turned.vcpu (Ends (OutsideMemory address)) []

abbrev pub vmload : Turned → ℕ → ℕ → Option OutsideAt → Turned
vmload turned vmcb next_rip (Some outside) = moved_outside turned outside.address
vmload turned vmcb next_rip None =
    over turned.memory turned.board (record turned.vcpu { registers = at_next (vmloaded (fields_in turned.memory vmcb) turned.vcpu.registers) next_rip }) Went []

abbrev pub vmsave : Turned → ℕ → ℕ → Option OutsideAt → Turned
vmsave turned vmcb next_rip (Some outside) = moved_outside turned outside.address
vmsave turned vmcb next_rip None =
    over (with_fields vmcb (vmsaved turned.vcpu.registers) turned.memory) turned.board (record turned.vcpu { registers = at_next turned.vcpu.registers next_rip }) Went []

-- in L2 too rAX is an address of L1's memory
unfoldable pub moved_by : Op → Way → Facts → Turned → ℕ → ℕ → Turned
moved_by op.Vmload way facts turned vmcb next_rip = vmload turned vmcb next_rip (moved_at turned.memory vmcb)
moved_by op.Vmsave way facts turned vmcb next_rip = vmsave turned vmcb next_rip (moved_at turned.memory vmcb)
moved_by _ way facts turned vmcb next_rip = vmrun way facts turned vmcb next_rip (fields_at turned.memory vmcb)

abbrev pub moved : Way → Facts → Turned → Op → ℕ → Turned
moved way facts turned o next_rip = finished turned (moved_by o way facts turned (whole_register rax turned.vcpu.registers) next_rip)

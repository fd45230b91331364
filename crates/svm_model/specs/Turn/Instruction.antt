-- The course of an instruction under a control: it is fetched, decoded and done (volume 3, 'Instruction Encoding'; volume 2,
-- 'SVM Intercepts').
use Rattle.std.specs.Prelude.{ℕ, ◌-◌, ◌%◌, min, List, ◌++◌, if◌then◌else◌, Option, Result, Ok, Err, length}
use Rattle.svm_model.specs.Turn.Accesses.{with_part}
use Rattle.svm_model.specs.Turn.Control.{Control}
use Rattle.svm_model.specs.Turn.Course.{Course, Read}
use Rattle.svm_model.specs.Instructions.Exceptions.{general_protection}
use Rattle.svm_model.specs.Turn.Faults.{Came}
use Rattle.svm_model.specs.declared.vcpus.Vcpu.{Vcpu}
use Rattle.svm_model.specs.Turn.Outsides.{Doing}
use Rattle.svm_model.specs.Memory.RegisterFile.{is_user}
use Rattle.svm_model.specs.Instructions.Rows.{decoded}
use Rattle.svm_model.specs.Instructions.UserRows.{is_user_row}
use Rattle.svm_model.specs.declared.names.End.TheVariants.{Unlisted}
use Rattle.svm_model.specs.declared.names.Kind.TheVariants.{Fetch}
use Rattle.svm_model.specs.declared.rows.Decoded.{Decoded}
use Rattle.svm_model.specs.declared.rows.Decoded.TheVariants.{Row, More, Unlisted as NoForm}
use Rattle.svm_model.specs.declared.rows.Row.{Row as Instruction}
use Rattle.svm_model.specs.declared.turns.Facts.{Facts}
use Rattle.svm_model.specs.declared.turns.Part.{Part}
use Rattle.svm_model.specs.declared.turns.Stop.{Stop}
use Rattle.svm_model.specs.declared.turns.Stop.TheVariants as stop
use Rattle.svm_model.specs.Turn.UserCourses.{rip_after, raised, user_row}
use Rattle.svm_model.specs.Turn.SystemCourses.{system_row}

-- a row
unfoldable pub done_row : Doing → (Result Came Stop → Course) → Course
done_row d next = if is_user_row d.row.op then user_row d next else system_row d next

abbrev pub doing : Option Control → Facts → Vcpu → Instruction → ℕ → Doing
doing control facts vcpu row size = record { control = control; facts = facts; vcpu = vcpu; row = row; next_rip = rip_after vcpu size }

-- Fetch.

abbrev pub fetch_part : Vcpu → ℕ → Part
fetch_part vcpu address = record { address = address; kind = Fetch; user = is_user vcpu.registers }

abbrev pub read_at : ℕ → ℕ → (Result (List ℕ) Stop → Course) → Result ℕ Stop → Course
read_at address count next (Ok number) = Read number address count (λ bytes. next (Ok bytes))
read_at address count next (Err reason) = next (Err reason)

-- so many bytes are fetched in one page
unfoldable pub fetched : Vcpu → ℕ → ℕ → (Result (List ℕ) Stop → Course) → Course
fetched vcpu address count next = with_part (fetch_part vcpu address) general_protection (read_at address count next)

-- what all fifteen bytes decode to: no form is longer
abbrev pub on_all : Option Control → Facts → Vcpu → (Result Came Stop → Course) → Decoded → Course
on_all control facts vcpu next (Row row size) = done_row (doing control facts vcpu row size) next
on_all control facts vcpu next More = next (raised general_protection)
on_all control facts vcpu next (NoForm byte) = next (Err (stop.Ended (Unlisted byte)))

abbrev pub on_back : Option Control → Facts → Vcpu → List ℕ → (Result Came Stop → Course) → Result (List ℕ) Stop → Course
on_back control facts vcpu front next (Ok back) = on_all control facts vcpu next (decoded (front ++ back))
on_back control facts vcpu front next (Err reason) = next (Err reason)

-- the rest of fifteen bytes, from the next page
unfoldable pub next_page : Option Control → Facts → Vcpu → List ℕ → (Result Came Stop → Course) → Course
next_page control facts vcpu front next =
    fetched vcpu (rip_after vcpu (length front)) (15 - length front) (on_back control facts vcpu front next)

-- what the bytes of the first page decode to: the next page is read only where they go on
abbrev pub on_front : Option Control → Facts → Vcpu → List ℕ → (Result Came Stop → Course) → Decoded → Course
on_front control facts vcpu front next (Row row size) = done_row (doing control facts vcpu row size) next
on_front control facts vcpu front next More = next_page control facts vcpu front next
on_front control facts vcpu front next (NoForm byte) = next (Err (stop.Ended (Unlisted byte)))

abbrev pub on_first : Option Control → Facts → Vcpu → (Result Came Stop → Course) → Result (List ℕ) Stop → Course
on_first control facts vcpu next (Ok front) = on_front control facts vcpu front next (decoded front)
on_first control facts vcpu next (Err reason) = next (Err reason)

-- how many bytes fetch reads in the first page
abbrev pub front_count : ℕ → ℕ
front_count rip = min 15 (4096 - rip % 4096)

-- an instruction: fetched, decoded and done
unfoldable pub instruction : Option Control → Facts → Vcpu → (Result Came Stop → Course) → Course
instruction control facts vcpu next =
    fetched vcpu vcpu.registers.rip (front_count vcpu.registers.rip) (on_first control facts vcpu next)

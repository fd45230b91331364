-- The world that the machine keeps is well formed.
use Rattle.std.proofs.Common.{◌≡◌, ◌∙◌, ℕ, ◌+◌, ◌%◌, ◌≤◌, List, [], ◌∷◌, length, Option, ap, refl, subst, arith}
use Rattle.std.specs.List.{AllByRecursion}
use Rattle.std.proofs.lemmas.List.Elements.{All-from_recursion}
use Rattle.svm_model.specs.Machine.Guest.{Guest}
use Rattle.svm_model.specs.Machine.Shapes.{IsWellFormed}
use Rattle.svm_model.specs.declared.names.VcpuId.{VcpuId}
use Rattle.svm_model.proofs.WindowLemmas.{length-guest_of}
use Rattle.plain_machine.specs.Slots.{Kept, AreInRow, AreThere, IsThere, counts, guests_at, layouts}
use Rattle.plain_machine.proofs.Rows.{row_end}
use Rattle.plain_machine.proofs.Worlds.{counts-layouts}

pages-by : (bytes : List ℕ) (from : ℕ) (slots : List Kept) → AreInRow (length bytes) from (layouts slots) → AllByRecursion (λ (guest : Guest). length guest.memory % 4096 ≡ 0) (guests_at bytes slots)
pages-by bytes from [] row = tt
pages-by bytes from (x ∷ slots) row =
    let rest = row_end (length bytes) (from + x.window.size) (layouts slots) row.2 in
    let within : x.window.base + x.window.size ≤ length bytes = omega (arith, row.0, rest) in
    (ap (λ n. n % 4096) (length-guest_of x.window bytes within) ∙ row.1.pages, pages-by bytes (from + x.window.size) slots row.2)

pub well_formed : (version features event : ℕ) (bytes : List ℕ) (slots : List Kept) (placing : List (Option VcpuId)) → AreInRow (length bytes) 0 (layouts slots) → AreThere (counts (layouts slots)) placing →
    IsWellFormed (record { version = version; features = features; cpus = length placing; guests = guests_at bytes slots; placing = placing; event = event })
well_formed version features event bytes slots placing row there = record {
  processors = refl;
  there = λ cpu id e. subst (λ (ns : List ℕ). IsThere ns id) (counts-layouts bytes slots) (there.there cpu id e);
  one_to_one = there.one_to_one;
  pages = All-from_recursion (λ (guest : Guest). length guest.memory % 4096 ≡ 0) (guests_at bytes slots) (pages-by bytes 0 slots row);
}

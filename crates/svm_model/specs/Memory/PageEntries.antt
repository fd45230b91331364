-- The entries of page tables: their bits, reserved bits, and the code of a page fault (volume 2, 'Page-Translation-Table
-- Entry Fields', 'Page-Fault Exception').
use Rattle.std.specs.Prelude.{ℕ, ◌+◌, ◌*◌, ◌/◌, ◌%◌, ◌^◌, ◌-◌, Bool, true, false, ◌==◌, ◌&&◌, ◌||◌, not, nat_lt}
use Rattle.svm_model.specs.Memory.Bits.{has, has_some, bits_where}
use Rattle.svm_model.specs.declared.names.Access.{Access}
use Rattle.svm_model.specs.declared.names.Kind.{Kind}
use Rattle.svm_model.specs.declared.names.Kind.TheVariants.{Read, Write, Fetch}
use Rattle.svm_model.specs.declared.page_tables.Paging.{Paging}

-- The bits of an entry, by the manual's names.
-- P, R/W, U/S
abbrev pub present : ℕ
present = 2 ^ 0

abbrev pub writable : ℕ
writable = 2 ^ 1

abbrev pub user : ℕ
user = 2 ^ 2

-- A, and D in a leaf
abbrev pub accessed : ℕ
accessed = 2 ^ 5

abbrev pub dirty : ℕ
dirty = 2 ^ 6

-- PS, and G in a leaf
abbrev pub page_size : ℕ
page_size = 2 ^ 7

abbrev pub global : ℕ
global = 2 ^ 8

-- NX
abbrev pub no_execute : ℕ
no_execute = 2 ^ 63

-- bits 39:12, a physical address
abbrev pub address : ℕ
address = 2 ^ 40 - 2 ^ 12

-- bits 51:40, which are above the physical width of 40 bits
abbrev pub above_width : ℕ
above_width = 2 ^ 52 - 2 ^ 40

-- bits 20:13, below the address of a page of 2 MiB
abbrev pub below_large : ℕ
below_large = 2 ^ 21 - 2 ^ 13

-- bits 29:13, below the address of a page of 1 GiB
abbrev pub below_huge : ℕ
below_huge = 2 ^ 30 - 2 ^ 13

abbrev pub is_write : Kind → Bool
is_write Read = false
is_write Write = true
is_write Fetch = false

abbrev pub is_fetch : Kind → Bool
is_fetch Read = false
is_fetch Write = false
is_fetch Fetch = true

-- the error code of a page fault, bits 0 to 4: P, R/W, U/S, RSV, I/D; fetches have I/D where EFER.NXE is 1
abbrev pub fault_code : Bool → Bool → Paging → Access → ℕ
fault_code present reserved paging access =
    bits_where present 1 + bits_where (is_write access.kind) 2 + bits_where access.user 4 + bits_where reserved 8 + bits_where (is_fetch access.kind && paging.no_execute) 16

-- each level takes nine bits of the page number, level 1 the lowest
abbrev pub index_at : ℕ → ℕ → ℕ
index_at level page = page / 2 ^ (9 * (level - 1)) % 512

-- an entry that ends the path: one of level 1, or one with PS of level 2 or 3
abbrev pub is_leaf : ℕ → ℕ → Bool
is_leaf level bits = (level == 1) || (has bits page_size && nat_lt level 4)

-- bits that have to be 0: those above the physical width, PS at level 4, the bits below a large page's address, and NX where EFER.NXE is 0
abbrev pub is_reserved : ℕ → Paging → ℕ → Bool
is_reserved level paging bits =
    has_some bits above_width || ((level == 4) && has bits page_size) || ((level == 3) && has bits page_size && has_some bits below_huge)
    || ((level == 2) && has bits page_size && has_some bits below_large) || (not paging.no_execute && has bits no_execute)

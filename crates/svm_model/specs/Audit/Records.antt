-- Records of translations: which a processor may have kept, which of them an access may use, and which are stale. Lists of
-- records have the newest first.
use Rattle.std.specs.Prelude.{ℕ, ◌/◌, ◌*◌, ◌==◌, nat_lt, ◌&&◌, ◌||◌, not, List, [], ◌∷◌, Bool, true, false, Option, Some, None, if◌then◌else◌, filter}
use Rattle.std.specs.Bool.{beq}
use Rattle.svm_model.specs.Audit.Makings.{Making, is_fetch, is_write}
use Rattle.svm_model.specs.declared.audits.Outcome.{Outcome}
use Rattle.svm_model.specs.declared.audits.Outcome.TheVariants as outcome
use Rattle.svm_model.specs.declared.audits.Remembered.{Remembered}
use Rattle.svm_model.specs.declared.page_tables.Leaf.{Leaf}
use Rattle.svm_model.specs.declared.page_tables.PageSize.{PageSize}
use Rattle.svm_model.specs.declared.page_tables.PageSize.TheVariants.{Small, Large, Huge}
use Rattle.svm_model.specs.declared.system.Flush.{Flush}
use Rattle.svm_model.specs.declared.system.Flush.TheVariants.{Local, Asid, Page, All, Whole}

-- What may be kept. A processor may keep each translation that it has found, for as long as it likes: of a linear page, and
-- with nested paging of a page of the guest's physical memory, each under the address-space identifier in use. What faults is
-- never kept (volume 2, 'Translation-Lookaside Buffer (TLB)', 'Address Space Identifier').

-- the record that a translation adds
abbrev pub record_of : Making → Leaf → Remembered
record_of made leaf = record { asid = made.asid; nested = made.nested; page = made.access.page; leaf = leaf }

abbrev pub with_leaf : Making → Option Leaf → List Remembered → List Remembered
with_leaf made None records = records
with_leaf made (Some leaf) records = record_of made leaf ∷ records

abbrev pub recorded : Making → List Remembered → List Remembered
recorded made records = with_leaf made made.leaf records

-- Who drops it. The vcpu that kept a translation drops it itself; what another vcpu does drops nothing of it. MOV to CR3 drops
-- the linear ones of its address space that are not global, and so does TLB_CONTROL 7 for the space that is entered. A change of
-- CR4.PGE drops all linear ones. INVLPG and INVLPGA drop those whose page, of whatever size, holds the address, global ones too.
-- Nested ones are dropped by TLB_CONTROL alone: by 1, which drops all, and by 3, which drops all of the space that is entered
-- (volume 2, 'TLB Management', 'TLB Flush', 'Global Pages').

-- how many pages of 4 KiB a page has
abbrev pub pages_in : PageSize → ℕ
pages_in Small = 1
pages_in Large = 512
pages_in Huge = 512 * 512

-- the page of this size that holds a page of 4 KiB holds another one
abbrev pub holds : PageSize → ℕ → ℕ → Bool
holds size page other = (page / pages_in size) == (other / pages_in size)

abbrev pub is_linear_of : ℕ → Remembered → Bool
is_linear_of asid r = not r.nested && (r.asid == asid)

-- a flush covers a record
abbrev pub covers : Flush → Remembered → Bool
covers (Local asid) r = is_linear_of asid r && not r.leaf.global
covers (Asid asid) r = is_linear_of asid r
covers (Page asid address) r = is_linear_of asid r && holds r.leaf.size r.page.0 (address / 4096)
covers All r = true
covers (Whole asid) r = r.asid == asid

-- a flush drops the records that it covers
abbrev pub dropped : Flush → List Remembered → List Remembered
dropped flush records = filter (λ r. not (covers flush r)) records

-- Which of them an access may use: one of its address space and page whose rights allow it. A write may use one alone that was
-- marked dirty, since the processor sets the dirty bit in the tables before it keeps that mark. A copy that does not permit an
-- access is no harm to it: the processor walks again (volume 2, 'Dirty (D) Bit', 'Page-Protection Checks').

abbrev pub is_same_page : Remembered → Making → Bool
is_same_page r made = (r.asid == made.asid) && beq r.nested made.nested && (r.page.0 == made.access.page.0)

-- the rights of a leaf allow an access, under CR0.WP
abbrev pub allows : Leaf → Making → Bool
allows leaf made =
    (leaf.user || not made.access.user)
    && (leaf.writable || not (is_write made.access.kind) || not (made.access.user || made.write_protect))
    && (leaf.executable || not (is_fetch made.access.kind))

abbrev pub permits : Leaf → Making → Bool
permits leaf made = allows leaf made && (leaf.dirty || not (is_write made.access.kind))

-- Which are stale. A copy that an access may use has to do what the walk does: lead to the same frame, where the walk changes
-- no memory. A nested copy counts at every access of its page, since a processor may join it with a linear one into one copy: it
-- has to have the frame of the walk, and no right and no dirty mark that the walk does not give (volume 2, 'TLB Management',
-- 'Nested Paging').

-- the walk comes to this leaf's frame, and changes no memory
abbrev pub agrees : Leaf → Outcome → Bool
agrees leaf (outcome.Frame frame changed) = (leaf.frame.0 == frame.0) && not changed
agrees leaf (outcome.Fault code) = false
agrees leaf outcome.End = false

-- a right or the dirty mark that the present leaf lacks
abbrev pub exceeds : Leaf → Leaf → Bool
exceeds kept leaf =
    (kept.writable && not leaf.writable) || (kept.user && not leaf.user) || (kept.executable && not leaf.executable) || (kept.dirty && not leaf.dirty)

abbrev pub differs : Leaf → Option Leaf → Bool
differs kept None = false
differs kept (Some leaf) = not (kept.frame.0 == leaf.frame.0) || exceeds kept leaf

-- a leaf that was kept for the page is stale at an access
abbrev pub is_stale : Making → Leaf → Bool
is_stale made kept = (permits kept made && not (agrees kept made.outcome)) || (made.nested && differs kept made.leaf)

-- Where several are stale the one with the lowest frame is told, and among equal frames the oldest.

-- an older one stays, unless the newer one's frame is less
abbrev pub preferred : Leaf → Option Leaf → Option Leaf
preferred newer None = Some newer
preferred newer (Some older) = if nat_lt newer.frame.0 older.frame.0 then Some newer else Some older

abbrev pub stale_with : Making → Leaf → Option Leaf → Option Leaf
stale_with made newer older = if is_stale made newer then preferred newer older else older

abbrev pub stale_leaf : Making → List Remembered → Option Leaf
stale_leaf made [] = None
stale_leaf made (r ∷ older) =
    if is_same_page r made then stale_with made r.leaf (stale_leaf made older) else stale_leaf made older

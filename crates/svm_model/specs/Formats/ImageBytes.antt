-- What the bytes of an image say, versions 1 and 2, or the first place where they are refused. Numbers are little-endian.
use Rattle.std.specs.Prelude.{◌≡◌, ℕ, IsTrue, ◌+◌, ◌*◌, ◌==◌, ◌&&◌, nat_lt, nat_le, suc, zero, List, [], ◌∷◌, if◌then◌else◌, Result, Ok, Err, length}
use Rattle.std.specs.Int.{w8, w16, w32, w64}
use Rattle.svm_model.specs.Memory.RegisterFile.{is_canonical}
use Rattle.svm_model.specs.declared.formats.ImageReason.TheVariants.{TooLong, Version, Count, Range, Trailing}
use Rattle.svm_model.specs.declared.register_file.Registers.{Registers}
use Rattle.svm_model.specs.Formats.Image.{ImageSegment, ImageGuest, Image, ImageFault}
use Rattle.svm_model.specs.Formats.ImageFields.{Source, ◌>>=◌, bytes_in, number_in, judged, bounded, zero_in, zeros_in, magic_in, features_in, is_root, are_flags}
use Rattle.svm_model.specs.Formats.ImageVcpus.{table_register, start_tr, Start, start_registers, vcpu_in}

-- The address, the length, a zero and the bytes. Once the length is read, a segment that is empty or goes past the
-- guest's memory is refused at its own place.
unfoldable pub segment_in : ℕ → Source → Result (ImageSegment × Source) ImageFault
segment_in pages s = do
  address ← number_in w64 s
  size ← number_in w32 address.1
  fits ← judged s Range (nat_le 1 size.0 && nat_le (address.0 + size.0) (4096 * pages)) size
  pad ← zero_in w32 fits.1
  bytes ← bytes_in fits.0 pad.1
  Ok (record { address = address.0; bytes = bytes.0 }, bytes.1)

-- so many of a record, one after another
unfoldable pub many_in : {A : Type 0} → (Source → Result (A × Source) ImageFault) → ℕ → Source → Result (List A × Source) ImageFault
many_in one zero s = Ok ([], s)
many_in one (suc count) s = do
  first ← one s
  rest ← many_in one count first.1
  Ok (first.0 ∷ rest.0, rest.1)

-- the numbers of vcpus, pages and segments, then the vcpus and the segments
unfoldable pub guest_in : Source → Result (ImageGuest × Source) ImageFault
guest_in s = do
  count ← bounded w8 1 8 Count s
  zeros ← zeros_in count.1
  pages ← bounded w32 1 16384 Count zeros.1
  parts ← bounded w32 0 4096 Count pages.1
  pad ← zero_in w32 parts.1
  vcpus ← many_in vcpu_in count.0 pad.1
  segments ← many_in (segment_in pages.0) parts.0 vcpus.1
  Ok (record { pages = pages.0; vcpus = vcpus.0; segments = segments.0 }, segments.1)

-- nothing may follow
abbrev pub ended : {A : Type 0} → A → Source → Result A ImageFault
ended x s = judged s Trailing (length s.rest == 0) x

-- the magic, the version, the numbers of guests and processors, the word of features, and the guests
unfoldable pub image_in : Source → Result Image ImageFault
image_in s = do
  magic ← magic_in s
  version ← bounded w16 1 2 Version magic.1
  count ← bounded w8 1 4 Count version.1
  cpus ← bounded w8 1 8 Count count.1
  features ← features_in version.0 cpus.1
  guests ← many_in guest_in count.0 features.1
  ended (record { version = version.0; features = features.0; cpus = cpus.0; guests = guests.0 }) guests.1

-- the most bytes that an image has
abbrev pub image_limit : ℕ
image_limit = 0x400_0000

-- the image that these bytes are, or where and why they are refused; their number is looked at first
unfoldable pub image_of : List ℕ → Result Image ImageFault
image_of bytes =
    if nat_lt image_limit (length bytes) then Err (record { place = image_limit; reason = TooLong })
    else image_in (record { place = 0; rest = bytes })

-- What each image is, whatever its bytes.

-- what an image says of a vcpu passes its checks: CR3 has no bit above the physical width, RIP, RSP and the bases are
-- canonical, and RFLAGS has only bits that are offered
pub record IsLawfulStart (start : Start) : Type 0 where
  pub root : IsTrue (is_root start.cr3)
  pub rip : IsTrue (is_canonical start.rip)
  pub rsp : IsTrue (is_canonical start.rsp)
  pub rflags : IsTrue (are_flags start.rflags)
  pub gdtr : (base limit : ℕ) × (start.gdtr ≡ table_register base limit) × IsTrue (is_canonical base)
  pub idtr : (base limit : ℕ) × (start.idtr ≡ table_register base limit) × IsTrue (is_canonical base)
  pub tr : (base limit : ℕ) × (start.tr ≡ start_tr base limit) × IsTrue (is_canonical base)

-- a vcpu starts as an image says, and all that it does not say is as in `start_registers`
pub record IsLawfulVcpu (registers : Registers) : Type 0 where
  pub start : Start
  pub starts : registers ≡ start_registers start
  pub lawful : IsLawfulStart start

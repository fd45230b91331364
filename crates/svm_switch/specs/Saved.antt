-- What VMSAVE stores, in three parts, and memory behind each (volume 3, 'VMSAVE').
use Rattle.std.specs.Prelude.{◌≡◌, ℕ, ◌+◌, ◌≤◌, List}
use Rattle.svm_model.specs.Memory.Bytes.{Host, SameOutside, guest_of}
use Rattle.svm_model.specs.Svm.Vmcb.{FieldValue, with_fields}
use Rattle.svm_model.specs.Svm.VmcbLayout.{place_of}
use Rattle.svm_model.specs.declared.vmcbs.Field.{Field}
use Rattle.svm_model.specs.declared.windows.GuestWindow.{GuestWindow}

-- a field lies in the page of its VMCB, and has so many bytes
pub record IsWide (field : Field) (bytes : ℕ) : Type 0 where
  pub inside : (place_of field).offset + (place_of field).width ≤ 4096
  pub width : (place_of field).width ≡ bytes

-- these values are in the fields of the VMCB at an address, and no other byte has changed
pub record AreSaved (window : GuestWindow) (address : ℕ) (stored : List FieldValue) (old new : Host) : Type 0 where
  pub guest : guest_of window new.bytes ≡ with_fields address stored (guest_of window old.bytes)
  pub others : SameOutside window old new

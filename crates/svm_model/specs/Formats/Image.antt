-- The image, versions 1 and 2: what its bytes say, or the first place where they are refused. Numbers are little-endian.
use Rattle.std.specs.Prelude.{ℕ, List}
use Rattle.svm_model.specs.declared.formats.ImageReason.{ImageReason}
use Rattle.svm_model.specs.declared.register_file.Registers.{Registers}

-- bytes that stand at an address of a guest
pub record ImageSegment : Type 0 where
  pub address : ℕ
  pub bytes : List ℕ

-- a guest: its pages of 4 KiB, its vcpus as they start, and its segments in order
pub record ImageGuest : Type 0 where
  pub pages : ℕ
  pub vcpus : List Registers
  pub segments : List ImageSegment

pub record Image : Type 0 where
  pub version : ℕ
  pub features : ℕ
  pub cpus : ℕ
  pub guests : List ImageGuest

-- where an image is refused, and why
pub record ImageFault : Type 0 where
  pub place : ℕ
  pub reason : ImageReason

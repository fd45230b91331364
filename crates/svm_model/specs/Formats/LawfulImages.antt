-- What each image is, whatever its bytes.
use Rattle.std.specs.Prelude.{◌≡◌, ℕ, ◌≤◌, ◌+◌, ◌*◌, length}
use Rattle.std.specs.List.{All}
use Rattle.svm_model.specs.Formats.Image.{ImageSegment, ImageGuest, Image}
use Rattle.svm_model.specs.Formats.ImageBytes.{IsLawfulVcpu}

-- a segment has bytes, and they lie within the guest's pages
pub record IsLawfulSegment (pages : ℕ) (segment : ImageSegment) : Type 0 where
  pub some : 1 ≤ length segment.bytes
  pub within : segment.address + length segment.bytes ≤ 4096 * pages

pub record IsLawfulGuest (guest : ImageGuest) : Type 0 where
  pub some_pages : 1 ≤ guest.pages
  pub most_pages : guest.pages ≤ 16384
  pub some_vcpus : 1 ≤ length guest.vcpus
  pub most_vcpus : length guest.vcpus ≤ 8
  pub vcpus : All IsLawfulVcpu guest.vcpus
  pub most_segments : length guest.segments ≤ 4096
  pub segments : All (IsLawfulSegment guest.pages) guest.segments

pub record IsLawfulImage (image : Image) : Type 0 where
  pub first_version : 1 ≤ image.version
  pub last_version : image.version ≤ 2
  pub features : image.features ≤ 1
  pub none_in_first : image.version ≡ 1 → image.features ≡ 0
  pub some_cpus : 1 ≤ image.cpus
  pub most_cpus : image.cpus ≤ 8
  pub some_guests : 1 ≤ length image.guests
  pub most_guests : length image.guests ≤ 4
  pub guests : All IsLawfulGuest image.guests

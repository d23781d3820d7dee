-- Why bytes are refused as an image.
use Rattle.std.specs.Prelude.{◌≡◌, ℕ, ◌<◌, ◌≤◌, List, length}
use Rattle.um_image.specs.declared.fault.ImageFault.{ImageFault}
use Rattle.um_image.specs.declared.fault.ImageFault.TheVariants.{TooLong, Bad, Memory}
use Rattle.um_image.specs.Image.{most_image_bytes, IsBadAt}

-- too many bytes, with their count; else no image, with the length of the longest prefix that
-- begins one, or want of memory
abbrev pub RefusesImage : List ℕ → ImageFault → Type 0
RefusesImage bytes (TooLong count) = (count ≡ length bytes) × (most_image_bytes < length bytes)
RefusesImage bytes (Bad k) = (length bytes ≤ most_image_bytes) × IsBadAt bytes k
RefusesImage bytes Memory = length bytes ≤ most_image_bytes

-- What a file holds of which the first bytes were read, and what later reads and writes leave of that.
use Rattle.std.proofs.Common.{◌≡◌, ◌≤◌, ◌<◌, ◌+◌, ◌*◌, ℕ, List, [], ◌∷◌, length, take, min, Option, Some, None, refl, sym, ap, ◌∙◌, subst, inl, inr, arith}
use Rattle.std.specs.Prelude.{Result, Ok, Err, IfOk, Vec, option_map, is_some}
use Rattle.std.specs.FinMap as map
use Rattle.std.specs.Int.{w32, to_be_bytes}
use Rattle.std.specs.declared.alloc.Global.{Global}
use Rattle.std.proofs.lemmas.List.{length-take, length-append}
use Rattle.umix_base.specs.declared.shelf.ShelfFault.TheVariants as shelf
use Rattle.umix_base.specs.Causes.{KeepsTelling, Rose}
use Rattle.umix_base.specs.Files.{Files, Lacks, ReadsFile, WritesFile}
use Rattle.um_machine.proofs.Rests.{rose_later}
use Rattle.um_word.specs.Scroll.{scroll, most_scroll_bytes, IsScrollFault}
use Rattle.um_word.specs.declared.scroll.ScrollFault.{ScrollFault}
use Rattle.um_word.specs.declared.scroll.ScrollFault.TheVariants.{TooLong, Ragged, Memory}
use Rattle.um_machine.specs.MachineView.{MachineView}
use Rattle.um_image.specs.Image.{HasImage, IsBadAt, most_image_bytes}
use Rattle.um_image.specs.Refusals.{RefusesImage}
use Rattle.um_image.specs.declared.fault.ImageFault.{ImageFault}
use Rattle.um_image.specs.declared.fault.ImageFault.TheVariants as images
use Rattle.codex_top.specs.declared.line.Line.{Line}
use Rattle.codex_top.specs.Endings.{End}
use Rattle.codex_top.specs.Outside.{Shelved, MayHave, IsOnlyRead, IsShelfCounted}
use Rattle.codex_top.specs.Reading.{IsUnreadable, ReadAs, ScrollRead, ImageRead}
use Rattle.codex_top.specs.Reading as reading
use Rattle.codex_top.specs.Refusals.{scroll_line, image_line}
use Rattle.codex_top.specs.Sending.{FileWritten, ScrollWritten}
use Rattle.codex_top.specs.Sending as sending
use Rattle.codex_top.specs.inner.FirstBytes.{FirstRead}
use Rattle.codex_top.proofs.Pieces.{take_whole}

-- what a file holds: these bytes, where they aren't too many, and else too many too
pub record Seen (files : Option Files) (name : List ℕ) (most : ℕ) (bytes : List ℕ) : Type 0 where
  pub held : List ℕ
  pub has : MayHave files name held
  pub whole : length bytes ≤ most → held ≡ bytes
  pub over : most < length bytes → most < length held

pub seen_of : (file : List ℕ) (most : ℕ) (before now : Shelved) (r : Result (Vec ℕ Global) Line) → FirstRead most file before now r →
    IfOk r (λ bytes. Seen before.files file most bytes.items)
seen_of file most before now _ (reading.holds held bytes has first) =
    let long : length bytes.items ≡ min (most + 1) (length held) = ap length first ∙ length-take (most + 1) held in
    record {
      held = held;
      has = has;
      whole = λ le. sym (take_whole (most + 1) held (omega (arith, long, le))) ∙ sym first;
      over = λ lt. omega (arith, long, lt);
    }
seen_of file most before now _ (reading.refused held line has wrong) = tt
seen_of file most before now _ (reading.unread cause) = tt
seen_of file most before now _ reading.no_memory = tt

first_in : (files : Files) (name : List ℕ) (most : ℕ) (bytes : List ℕ) (o : Option (List ℕ)) → map.get files name ≡ o → option_map (take most) o ≡ Some bytes →
    (held : List ℕ) × MayHave (Some files) name held × (bytes ≡ take most held)
first_in files name most bytes None is e = absurd (let f : option_map (take most) None ≡ Some bytes = e in cc)
first_in files name most bytes (Some held) is e = (held, is, let begins : take most held ≡ bytes = cc in sym begins)

-- the bytes of a read are the first of the file
pub first_of : (files : Option Files) (name : List ℕ) (most : ℕ) (bytes : Vec ℕ Global) → length bytes.items ≤ most →
    ReadsFile files name most (Ok bytes) → (held : List ℕ) × MayHave files name held × (bytes.items ≡ take most held)
first_of None name most bytes few e = (bytes.items, tt, sym (take_whole most bytes.items few))
first_of (Some files) name most bytes few e = first_in files name most bytes.items (map.get files name) refl e

module _ {A : Type 0} (Is : List ℕ → A → Type 0) (IsWrong : List ℕ → Line → Type 0) (file : List ℕ) where
  -- no bytes were read, and so nothing else
  pub none_read : (most : ℕ) (before now : Shelved) (line : Line) → FirstRead most file before now (Err line) → ReadAs Is IsWrong file before now (Err line)
  none_read most before now _ (reading.refused held line has wrong) = absurd wrong
  none_read most before now _ (reading.unread cause) = reading.unread cause
  none_read most before now _ reading.no_memory = reading.no_memory

  -- what was read stands, whatever else becomes of the shelf
  pub stays : (before mid now : Shelved) (it : A) → ReadAs Is IsWrong file before mid (Ok it) → ReadAs Is IsWrong file before now (Ok it)
  stays before mid now _ (reading.holds held it has is) = reading.holds held it has is

  -- a file that was read after another one
  pub since : (before mid now : Shelved) (r : Result A Line) → IsOnlyRead before mid → ReadAs Is IsWrong file mid now r → ReadAs Is IsWrong file before now r
  since before mid now _ only (reading.holds held it has is) = reading.holds held it (subst (λ files. MayHave files file held) only.files has) is
  since before mid now _ only (reading.refused held line has wrong) = reading.refused held line (subst (λ files. MayHave files file held) only.files has) wrong
  since before mid now _ only (reading.unread (inl rose)) = reading.unread (inl (rose_later before.read_faults mid.read_faults now.read_faults only.reads rose))
  since before mid now _ only (reading.unread (inr lacks)) = reading.unread (inr (subst (λ files. Lacks files file) only.files lacks))
  since before mid now _ only reading.no_memory = reading.no_memory

-- two reads one after the other are reads
pub reads_on : (before mid now : Shelved) → IsOnlyRead before mid → IsOnlyRead mid now → IsOnlyRead before now
reads_on before mid now first second = record {
  files = second.files ∙ first.files;
  writes = second.writes ∙ first.writes;
  reads = omega (arith, first.reads, second.reads);
}

-- a scroll has four bytes for each word
pub length-scroll : (words : List ℕ) → length (scroll words) ≡ 4 * length words
length-scroll [] = refl
length-scroll (word ∷ words) =
    let more : length (scroll (word ∷ words)) ≡ 4 + length (scroll words) = length-append (to_be_bytes w32 word) (scroll words) in
    omega (arith, more, length-scroll words)

-- bytes that are no scroll, in the file of which they are the first ones
pub refused_as : (file : List ℕ) (before now : Shelved) (bytes : List ℕ) (fault : ScrollFault) → Seen before.files file most_scroll_bytes bytes →
    IsScrollFault bytes fault → ScrollRead file before now (Err (scroll_line fault))
refused_as file before now bytes (TooLong count) s why = reading.refused s.held _ s.has (reading.too_long (s.over why.1))
refused_as file before now bytes (Ragged count) s why =
    let is : bytes ≡ s.held = sym (s.whole why.1) in
    rw why.0 (rw is (reading.refused s.held _ s.has (reading.ragged (rw (← is) why.1) (rw (← is) why.2))))
refused_as file before now bytes Memory s why = reading.no_memory

-- a write that wanted memory left the files as they were
pub files_stay : (name bytes : List ℕ) (files now : Option Files) → WritesFile name bytes files now (Err shelf.Memory) → KeepsTelling files now → now ≡ files
files_stay name bytes None None w k = refl
files_stay name bytes None (Some now) w k = cc
files_stay name bytes (Some files) now w k = w

-- a file that is written after another was read
pub file_after : (file bytes : List ℕ) (before mid now : Shelved) (end : End) → IsOnlyRead before mid → FileWritten file bytes mid now end →
    FileWritten file bytes before now end
file_after file bytes before mid now _ only (sending.written w) =
    sending.written (subst (λ held. WritesFile file bytes held now.files (Ok tt)) only.files w)
file_after file bytes before mid now _ only (sending.cut w rose) =
    sending.cut (subst (λ held. WritesFile file bytes held now.files (Err shelf.Failed)) only.files w) (subst (λ n. Rose n now.write_faults) only.writes rose)
file_after file bytes before mid now _ only (sending.no_memory same) = sending.no_memory (same ∙ only.files)

pub scroll_after : (file words : List ℕ) (before mid now : Shelved) (end : End) → IsOnlyRead before mid → ScrollWritten file words mid now end →
    ScrollWritten file words before now end
scroll_after file words = file_after file (scroll words)

-- reads leave a shelf with counts
pub reads_counted : (before now : Shelved) → IsOnlyRead before now → IsShelfCounted before now
reads_counted before now only = record {
  files = ap is_some only.files;
  reads = only.reads;
  writes = let same = only.writes in omega (arith, same);
}

-- bytes that are no image, in the file of which they are the first ones
pub image_refused : (file : List ℕ) (before now : Shelved) (bytes : List ℕ) (fault : ImageFault) → Seen before.files file most_image_bytes bytes →
    RefusesImage bytes fault → ImageRead file before now (Err (image_line fault))
image_refused file before now bytes (images.TooLong count) s why = reading.refused s.held _ s.has (reading.too_long (s.over why.1))
image_refused file before now bytes (images.Bad begun) s why =
    let is : bytes ≡ s.held = sym (s.whole why.0) in
    reading.refused s.held _ s.has (reading.bad begun (subst (λ bs. length bs ≤ most_image_bytes) is why.0) (subst (λ bs. IsBadAt bs begun) is why.1))
image_refused file before now bytes images.Memory s why = reading.no_memory

-- the machine of an image that was read
pub image_has : (file : List ℕ) (before now : Shelved) (saved : MachineView × ℕ) → ImageRead file before now (Ok saved) → HasImage saved.0 saved.1
image_has file before now _ (reading.holds held saved has is) = is.has

-- a scroll that was read has few enough bytes
pub scroll_fits : (file : List ℕ) (before now : Shelved) (words : Vec ℕ Global) → ScrollRead file before now (Ok words) → length (scroll words.items) ≤ most_scroll_bytes
scroll_fits file before now _ (reading.holds held words has is) = subst (λ bytes. length bytes ≤ most_scroll_bytes) is.of_words is.few

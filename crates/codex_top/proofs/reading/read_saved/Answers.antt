use Rattle.std.proofs.Common.{◌≡◌, ◌≤◌, length, sym, subst, ◌∙◌}
use Rattle.std.specs.Prelude.{Ok}
use Rattle.std.proofs.lemmas.Result.{err_from_is_err_and}
use Rattle.um_image.specs.Image.{image_of, most_image_bytes}
use Rattle.um_image.specs.Refusals.{RefusesImage}
use Rattle.um_image.proofs.Short.{images_are_short}
use Rattle.codex_top.specs.Reading.{holds, IsImageOf, IsNoImage}
use Rattle.codex_top.proofs.FileLemmas.{seen_of, none_read, image_refused}
use Rattle.codex_top.proofs.reading.read_saved.Goals as goal

pub returns-in_err-bytes-clause-read : goal.returns-in_err-bytes-clause-read
returns-in_err-bytes-clause-read g c =
    let p = err_from_is_err_and c.from_residual.result c.from_residual.ensures.1 in
    rw (p.1, p.2) (none_read IsImageOf IsNoImage c.args.file.now most_image_bytes _ _ c.in_err-bytes.field-0.0 c.in_err-bytes.ensures.read)

pub returns-in_err-read_image-clause-read : goal.returns-in_err-read_image-clause-read
returns-in_err-read_image-clause-read g c =
    let p = err_from_is_err_and c.from_residual-in_err-read_image.result c.from_residual-in_err-read_image.ensures.1 in
    let s = seen_of c.args.file.now most_image_bytes _ _ (Ok c.in_ok-bytes.bytes) c.in_ok-bytes.ensures.read in
    let why = subst (λ bytes. RefusesImage bytes c.in_err-read_image.field-0.0) c.deref.ensures.value c.in_err-read_image.ensures.fault in
    rw (p.1, p.2) (image_refused c.args.file.now _ _ c.in_ok-bytes.bytes.items c.in_err-read_image.field-0.0 s why)

pub returns-clause-read : goal.returns-clause-read
returns-clause-read g c =
    let s = seen_of c.args.file.now most_image_bytes _ _ (Ok c.in_ok-bytes.bytes) c.in_ok-bytes.ensures.read in
    let saved = c.in_ok-read_image.field-0 in
    let image = c.in_ok-read_image.ensures.image in
    let is : image_of saved.0 saved.1 ≡ c.in_ok-bytes.bytes.items = image.1 ∙ c.deref.ensures.value in
    let fits : length c.in_ok-bytes.bytes.items ≤ most_image_bytes = images_are_short c.in_ok-bytes.bytes.items (saved.0, saved.1, image.0, sym is) in
    holds s.held saved s.has (record { has = image.0; same = is ∙ sym (s.whole fits) })

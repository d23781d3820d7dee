use Rattle.std.proofs.Common.{◌≡◌, ℕ, List, [], ◌∷◌, ◌++◌, ap, ◌∙◌}
use Rattle.std.proofs.lemmas.List.{append_assoc}
use Rattle.um_word.specs.Scroll.{scroll}
use Rattle.um_image.specs.Image.{image_mark, two_words, flag}
use Rattle.um_image.proofs.Put.{put_more}
use Rattle.um_image.proofs.writing.put_head.Goals as goal

regroup : (registers : List ℕ) (f h m a : ℕ) (c t : List ℕ) →
    image_mark ∷ [] ++ registers ++ f ∷ [] ++ c ++ t ++ h ∷ [] ++ m ∷ [] ++ a ∷ [] ≡ image_mark ∷ (registers ++ (f ∷ (c ++ (t ++ (h ∷ m ∷ a ∷ [])))))
regroup registers f h m a c t = simp append_assoc

pub returns : goal.returns
returns c =
    let m = c.args.machine.now in
    let first = c.args.bytes.now.items in
    let a = c.in_ok-put.ensures in
    let b = put_more first _ _ (image_mark ∷ []) m.registers a c.in_ok-put_registers.ensures in
    let d = put_more first _ _ (image_mark ∷ [] ++ m.registers) (c.finger.result ∷ []) b c.in_ok-put-2.ensures in
    let e = put_more first _ _ (image_mark ∷ [] ++ m.registers ++ c.finger.result ∷ []) (two_words c.cycles.result) d c.in_ok-put_long.ensures in
    let f = put_more first _ _ (image_mark ∷ [] ++ m.registers ++ c.finger.result ∷ [] ++ two_words c.cycles.result) (two_words c.args.taken) e c.in_ok-put_long-2.ensures in
    let g = put_more first _ _ (image_mark ∷ [] ++ m.registers ++ c.finger.result ∷ [] ++ two_words c.cycles.result ++ two_words c.args.taken) (c.flag_of.result ∷ []) f c.in_ok-put-3.ensures in
    let h = put_more first _ _ (image_mark ∷ [] ++ m.registers ++ c.finger.result ∷ [] ++ two_words c.cycles.result ++ two_words c.args.taken ++ c.flag_of.result ∷ []) (c.made.result ∷ []) g c.in_ok-put-4.ensures in
    let i = put_more first c.put-4.new.bytes.items c.put-5.new.bytes.items (image_mark ∷ [] ++ m.registers ++ c.finger.result ∷ [] ++ two_words c.cycles.result ++ two_words c.args.taken ++ c.flag_of.result ∷ [] ++ c.made.result ∷ []) (c.args.abandoned ∷ []) h c.in_ok-put-5.ensures in
    i ∙ ap (λ xs. first ++ scroll xs) (regroup m.registers c.finger.result c.flag_of.result c.made.result c.args.abandoned (two_words c.cycles.result) (two_words c.args.taken)
    ∙ (λ j. image_mark ∷ (m.registers ++ (c.finger.ensures j ∷ (two_words (c.cycles.ensures j) ++ (two_words c.args.taken
    ++ ((c.flag_of.ensures ∙ ap flag c.halted.ensures) j ∷ c.made.ensures j ∷ c.requires.abandoned j ∷ [])))))))

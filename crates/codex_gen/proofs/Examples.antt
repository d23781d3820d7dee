-- Two strips, and the first words of a generator.
use Rattle.std.specs.Prelude.{◌≡◌, [], ◌∷◌, true, false, codes}
use Rattle.std.proofs.Common.{refl}
use Rattle.grid_picture.specs.Lined.{lined}
use Rattle.codex_gen.specs.Generated.{strip, generator, next_words, module_count, words_after}

without_entry : lined (strip (codes "main") false (codes "send[((),E)]" ∷ codes "use m0" ∷ [])) ≡ codes ",.........................,\n:main                     :\n: *============*  *======*:\n: !send[((),E)]!->!use m0!-\n: *============*  *======*:\n'.........................'\n"
without_entry = refl

with_entry : lined (strip (codes "m0") true (codes "send[(((),W),E)]" ∷ codes "split W" ∷ codes "use m1" ∷ [])) ≡ codes ",........................................,\n:m0                                      :\n: *================*  *=======*  *======*:\n->!send[(((),W),E)]!->!split W!->!use m1!-\n: *================*  *=======*  *======*:\n'........................................'\n"
with_entry = refl

modules_of_one : module_count 1 ≡ 33
modules_of_one = refl

list_of_one : words_after 1 ≡ 3070869273 ∷ 2939357529 ∷ 1317858200 ∷ 2942928221 ∷ 1833095577 ∷ 1117637656 ∷ 239603561 ∷ 1068211872 ∷ 631108986 ∷ 449060994 ∷ 2635271793 ∷ 525860384 ∷ 4251159832 ∷ 919186700 ∷ 2435094388 ∷ 968012380 ∷ []
list_of_one = refl

-- the smallest strip
one_box : lined (strip (codes "main") false (codes "send[((),E)]" ∷ [])) ≡ codes ",...............,\n:main           :\n: *============*:\n: !send[((),E)]!-\n: *============*:\n'...............'\n"
one_box = refl

words_of_42 : next_words (generator 42) 6 ≡ 0xa15c02b7 ∷ 0x7b47f409 ∷ 0xba1d3330 ∷ 0x83d2f293 ∷ 0xbfa4784b ∷ 0xcbed606e ∷ []
words_of_42 = refl

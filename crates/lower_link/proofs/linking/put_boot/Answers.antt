-- The parts of the boot, one after the other.
use Rattle.std.specs.Prelude.{◌≡◌, ◌+◌, ◌-◌, ◌++◌, suc, length}
use Rattle.std.proofs.Common.{refl, ap, arith}
use Rattle.std.proofs.lemmas.Result.{on_ok_weaker}
use Rattle.code_templates.specs.Templates.{make_table, copy_block, call_block}
use Rattle.lower_link.specs.inner.Boot.{copies, boot_code}
use Rattle.lower_link.specs.inner.Drafts.{DraftAdds}
use Rattle.lower_link.specs.inner.Made.{places_of}
use Rattle.lower_link.proofs.Adding.{adds_as, adds_said, adds_then}
use Rattle.lower_link.proofs.Joining.{copy_next}
use Rattle.lower_link.proofs.linking.put_boot.Goals as goal

pub loop-place-init : goal.loop-place-init
loop-place-init c = record {
  number = refl;
  at = refl;
  code = c.in_ok-put.ensures (make_table c.len-count.result) (c.make_table.ensures.operators c.len-count.result _);
}

pub loop-place-preserved : goal.loop-place-preserved
loop-place-preserved c =
    let p = places_of c.deref-place-items.result.now in
    let i = c.loop-place.place-index in
    let number = c.loop-place.number in
    let at = c.loop-place.at in
    let copy = c.in_ok-put-2.ensures (copy_block (p.size i) number (p.place i) (at + 3) (at + 12)) (c.copy_block.ensures.operators (p.size i) number (p.place i) (at + 3) (at + 12) _) in
    record {
      number = omega (arith, c.loop-place.invariant.number);
      at = omega (arith, c.loop-place.invariant.at);
      code = adds_as (make_table c.len-count.result ++ copies p 0 (i + 1) 2)
          (ap (λ ops. make_table c.len-count.result ++ ops) (copy_next p i number at c.loop-place.invariant.number c.loop-place.invariant.at))
          (adds_then c.loop-place.invariant.code copy);
    }

pub returns : goal.returns
returns c =
    let count = c.len-count.result in
    let ops = call_block 0 0 c.args.main c.args.frame (count - 1) 0 in
    let items = c.deref-place-items.result.now in
    let same = c.deref-place-items.ensures.value in
    let i = c.loop-place.place-index in
    on_ok_weaker c.put-2.result (λ (k : DraftAdds c.loop-place.draft c.put-2.new.self ops). λ modules e.
    (let all : count ≡ suc modules = omega (arith, e, c.len-count.ensures, c.args.blocks.now.ok.0) in
    let end : i ≡ suc modules = omega (arith, e, ap length same, c.loop-place-test.false, c.loop-place.auto.place-index-end) in
    let last : count - 1 ≡ modules = omega (arith, all) in
    adds_as (boot_code (places_of c.args.blocks.now.items) modules c.args.main c.args.frame)
    (λ j. make_table (all j) ++ (copies (places_of (same j)) 0 (end j) 2 ++ call_block 0 0 c.args.main c.args.frame (last j) 0))
    (adds_then c.loop-place.invariant.code k)))
    (adds_said c.put-2.result c.loop-place.draft c.put-2.new.self _ _ ops c.put-2.ensures (c.call_block.ensures.operators 0 0 c.args.main c.args.frame (count - 1) 0 _))

use Rattle.std.proofs.Common.{◌≡◌, ◌++◌, ◌-◌, ℕ, List, [], length, take, ap, ◌∙◌, arith}
use Rattle.std.specs.List.{flat_map}
use Rattle.std.specs.Prelude.{reverse}
use Rattle.std.proofs.lemmas.List.{length-reverse}
use Rattle.two_d.specs.Trails.{trail_at}
use Rattle.two_d.specs.declared.trail.Site.{Site}
use Rattle.stuck_view.specs.Pages.{caller_part, more_line, most_shown, site_part}
use Rattle.text_picture.proofs.Added.{pieces_added}
use Rattle.stuck_view.proofs.trail.trail_page.Goals as goal

pub returns : goal.returns
returns c ds are =
    let text = c.args.text.now in
    let P = c.args.program.now in
    let trail = trail_at c.args.trails.now c.args.at in
    let part = caller_part text ds P in
    let back : reverse c.deref.result.now ≡ trail.callers = ap reverse c.deref.ensures.value ∙ c.in_ok-site.ensures.callers in
    let as_long = length-reverse c.in_ok-site.callers.items in
    let same = ap length c.in_ok-site.ensures.callers in
    let count : c.saturating_sub.result ≡ length trail.callers - most_shown = omega (arith, c.saturating_sub.ensures, c.len.ensures, as_long, same) in
    pieces_added [] (site_part text ds P trail.site) (flat_map part (take most_shown trail.callers)) (more_line (length trail.callers - most_shown))
    c.push_site.new.page.items c.push_callers.new.page.items c.push_more.new.page.items
    (c.in_ok-push_site.ensures ds are
    ∙ (ap (λ (t : List ℕ). t ++ site_part text ds P c.in_ok-site.site) c.new-page.ensures.items
    ∙ ap (λ (s : Site). site_part text ds P s) c.in_ok-site.ensures.site))
    (c.in_ok-push_callers.ensures ds are
    ∙ ap (λ (l : List (ℕ × ℕ)). c.push_site.new.page.items ++ flat_map part (take most_shown l)) back)
    (c.in_ok-push_more.ensures ∙ ap (λ (n : ℕ). c.push_callers.new.page.items ++ more_line n) count)

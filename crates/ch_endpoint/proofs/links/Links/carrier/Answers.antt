use Rattle.std.proofs.Common.{◌≡◌, List, sym, ap, subst, find, get_or, Some, ◌∙◌}
use Rattle.ch_model.specs.HostState.{Link}
use Rattle.ch_model.specs.HostSteps.{is_link, link_or_new}
use Rattle.ch_model.specs.HostCalls.{carries}
use Rattle.ch_endpoint.specs.Places.{Apart}
use Rattle.ch_endpoint.proofs.Tables.{none_there, found_there, carrier_with}
use Rattle.ch_endpoint.proofs.links.Links.carrier.Goals as goal

pub returns-in-None : goal.returns-in-None
returns-in-None c = none_there (carries c.args.end c.args.conn) c.args.self.now (sym c.place_of.ensures.place ∙ c.in-None.is)

pub returns-in-Some : goal.returns-in-Some
returns-in-Some c =
    let x : Link = c.index.result.now in
    let links : List Link = c.args.self.now in
    let there : x ≡ get_or links c.in-Some.place x = c.index.ensures ∙ ap (λ rows. get_or rows c.in-Some.place x) c.self.view_is in
    let found : find (carries c.args.end c.args.conn) links ≡ Some x = found_there (carries c.args.end c.args.conn) x links c.in-Some.place (sym c.place_of.ensures.place ∙ c.in-Some.is) ∙ ap Some (sym there) in
    let peer : c.behind-self.inside.peer ≡ x.peer = ap (λ (l : Link). l.peer) c.behind-self.view_is in
    found
    ∙ ap Some (sym (carrier_with c.args.end c.args.conn x links (subst Apart c.self.view_is c.self.invariant.0) found))
    ∙ ap (λ p. Some (link_or_new c.args.end p (find (is_link c.args.end p) links))) (sym peer)

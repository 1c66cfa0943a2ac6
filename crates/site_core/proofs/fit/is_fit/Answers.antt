use Rattle.std.proofs.Common.{subst, ℕ, List}
use Rattle.std.specs.Prelude.{◌↔◌, IsTrue}
use Rattle.tree_node.specs.Store.{Equation}
use Rattle.site_model.specs.Fit.{SitesOfMsg, EachOfMsg, IsOtherSite, IsKnownName, BundleFits}
use Rattle.site_units.specs.Core.{site_of}
use Rattle.site_core.proofs.FitLemmas.{ruled_out}
use Rattle.site_core.proofs.fit.is_fit.Goals as goal

pub returns-then-not-can_take : goal.returns-then-not-can_take
returns-then-not-can_take c = ruled_out c.can_take.result _ _ c.can_take.ensures c.if-not-can_take.true (λ fit. fit.takes)

pub returns-then-not-sites_fit : goal.returns-then-not-sites_fit
returns-then-not-sites_fit c =
    let site = site_of c.args.core.now in
    let sites = subst (λ (n : ℕ). IsTrue c.sites_fit.result ↔ SitesOfMsg (IsOtherSite n site) c.args.msg.now) c.bounds_of-bounds.ensures.sites (c.sites_fit.ensures site c.bounds_of-bounds.ensures.bounds.0) in
    ruled_out c.sites_fit.result _ _ sites c.if-not-sites_fit.true (λ fit. fit.sites)

pub returns-then-not-names_fit : goal.returns-then-not-names_fit
returns-then-not-names_fit c =
    let site = site_of c.args.core.now in
    let names = subst (λ (n : ℕ). IsTrue c.names_fit.result ↔ EachOfMsg (IsKnownName n site) c.args.msg.now) c.bounds_of-bounds.ensures.sites (c.names_fit.ensures site c.bounds_of-bounds.ensures.bounds) in
    ruled_out c.names_fit.result _ _ names c.if-not-names_fit.true (λ fit. fit.names)

pub returns-then-not-codes_fit : goal.returns-then-not-codes_fit
returns-then-not-codes_fit c = ruled_out c.codes_fit.result _ _ c.codes_fit.ensures c.if-not-codes_fit.true (λ fit. fit.codes)

pub returns : goal.returns
returns c =
    let site = site_of c.args.core.now in
    let sites = subst (λ (n : ℕ). IsTrue c.sites_fit.result ↔ SitesOfMsg (IsOtherSite n site) c.args.msg.now) c.bounds_of-bounds.ensures.sites (c.sites_fit.ensures site c.bounds_of-bounds.ensures.bounds.0) in
    let names = subst (λ (n : ℕ). IsTrue c.names_fit.result ↔ EachOfMsg (IsKnownName n site) c.args.msg.now) c.bounds_of-bounds.ensures.sites (c.names_fit.ensures site c.bounds_of-bounds.ensures.bounds) in
    let bundle = subst (λ (es : List Equation). IsTrue c.bundle_fits.result ↔ BundleFits site es) c.bundle_of.ensures (c.bundle_fits.ensures site) in (
      λ k. record {
        wire = c.wire_fits.ensures.0 c.if-not-wire_fits.false;
        takes = c.can_take.ensures.0 c.if-not-can_take.false;
        sites = sites.0 c.if-not-sites_fit.false;
        names = names.0 c.if-not-names_fit.false;
        codes = c.codes_fit.ensures.0 c.if-not-codes_fit.false;
        bundle = bundle.0 k;
      },
      λ fit. bundle.1 fit.bundle,
    )

use Rattle.std.proofs.Common.{◌≡◌, ◌+◌}
use Rattle.token_chain.specs.declared.token.Token.TheVariants.{Here}
use Rattle.site_cells.proofs.place.serve_all.Given as goal

abbrev pub invariant-loop : goal.invariant-loop
invariant-loop l = record {
  token : l.held.token ≡ Here l.content;
  next : l.held.next ≡ l.fn.held.next;
  waiting : l.held.waiting + l.counter ≡ l.threads;
}

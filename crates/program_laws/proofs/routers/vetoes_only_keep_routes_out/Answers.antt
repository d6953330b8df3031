use Rattle.program_laws.proofs.routers.vetoes_only_keep_routes_out.Goals as goal

pub returns : goal.returns
returns c = record {
  candidates = λ said root answers table is route among. ((is.each route).0 among).0;
  kept_out = λ said root answers table is route candidate out let_in. out
      ((is.each route).1 (candidate, let_in));
}

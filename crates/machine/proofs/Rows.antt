-- Worked examples of runs.
use Rattle.std.proofs.Common.{[], ◌∷◌, refl, inl, arith, lit<}
use Rattle.machine.specs.declared.helper.Helper.TheVariants.{CounterAdd}
use Rattle.machine.specs.Given.{Given}
use Rattle.machine.specs.Label.{Silent, Add}
use Rattle.machine.specs.Runs.{Ends}
use Rattle.machine.specs.Laws.{adding}

pub adding-ends : (input : Given) → Ends (adding input) 4 (Silent ∷ Silent ∷ Add 5 3 ∷ []) 0
adding-ends input = record {
  last = _;
  steps = refl;
  leads = (
    _,
    record {
      instruction = _;
      at = refl;
      does = record {
        filling = _;
        gives = refl;
        writable = omega arith;
        silent = refl;
        after = refl;
      };
    },
    (
      _,
      record {
        instruction = _;
        at = refl;
        does = record {
          filling = _;
          gives = refl;
          writable = omega arith;
          silent = refl;
          after = refl;
        };
      },
      (
        _,
        record {
          instruction = _;
          at = refl;
          does = record {
            answer = 0;
            answered = record {
              helper = CounterAdd;
              known = refl;
              answers = (lit< tt, lit< tt, inl (refl, refl));
            };
            after = refl;
          };
        },
        refl,
      ),
    ),
  );
  exits = record { at = refl; answers = refl };
}

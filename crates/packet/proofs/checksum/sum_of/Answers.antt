use Rattle.std.proofs.Common.{◌≡◌, ◌<◌, ◌^◌, fold, ap, sym, ◌∙◌, arith}
use Rattle.packet.specs.Checksum.{folded, ones_plus, words_of}
use Rattle.packet.proofs.Sums.{eight_summed, folded-is, folded-word, folded_twice}
use Rattle.packet.proofs.checksum.sum_of.Goals.{then-large-ge-LARGE, else-large-ge-LARGE}
use Rattle.packet.proofs.checksum.sum_of.Goals as goal

pub loop-rest-init : goal.loop-rest-init
loop-rest-init c =
    let bytes = c.args.bytes.now in
    let is_word = folded-word c.args.start (omega arith) in
    record {
      words = ap (λ n. fold ones_plus (folded n) (words_of bytes)) c.from-large.ensures
          ∙ ap (λ n. fold ones_plus n (words_of bytes)) (sym is_word);
      small = omega (arith, c.from-large.ensures);
    }

pub loop-rest-preserved : goal.loop-rest-preserved
loop-rest-preserved c =
    let rest = c.loop-rest.rest.now in
    let so_far : fold ones_plus (folded c.if-large-ge-LARGE.large) (words_of c.loop-rest.rest.now)
    ≡ fold ones_plus c.args.start (words_of c.args.bytes.now) =
    elim c.if-large-ge-LARGE.branch [
      | then-large-ge-LARGE w ↦
          ap (λ n. fold ones_plus n (words_of rest))
          (ap folded (w.large-is ∙ w.from-large-then-large-ge-LARGE.ensures ∙ w.folded.ensures)
          ∙ folded_twice c.loop-rest.large) ∙ c.loop-rest.invariant.words
      | else-large-ge-LARGE w ↦ ap (λ n. fold ones_plus (folded n) (words_of rest)) w.large-is
          ∙ c.loop-rest.invariant.words
    ] in
    let low : c.if-large-ge-LARGE.large < 2 ^ 62 = elim c.if-large-ge-LARGE.branch [
      | then-large-ge-LARGE w ↦ omega (
        arith,
        w.large-is,
        w.from-large-then-large-ge-LARGE.ensures,
        w.folded.ensures,
        (folded-is c.loop-rest.large).within,
      )
      | else-large-ge-LARGE w ↦ omega (arith, w.large-is, w.if-large-ge-LARGE.false)
    ] in
    record {
      words = rw (c.two_words.ensures.number, c.two_words-in-len8-up.ensures.number)
          (eight_summed c.if-large-ge-LARGE.large _ rest c.in-len8-up.len_at_least (omega arith)
          (omega arith) (omega arith) (omega arith) so_far);
      small = omega (arith, low, c.two_words.ensures.small, c.two_words-in-len8-up.ensures.small);
    }

-- What was lent to a load serves for a dump.
use Rattle.std.proofs.Common.{◌≡◌, ℕ, ◌+◌, List, Option, Some, None, sym, ◌∙◌, ap, arith}
use Rattle.px_meaning.specs.Graph.{room_of}
use Rattle.px_load.specs.Frames.{AreLoadFrames, SameLoadFrames, HasFrame, SameText}
use Rattle.px_load.specs.declared.frames.LoadFrames.{LoadFrames}

still_text : (old new : Option (List ℕ)) → SameText old new → HasFrame old → HasFrame new
still_text None new same has = absurd has
still_text (Some x) None same has = absurd same
still_text (Some x) (Some y) same has = omega (arith, same, has)

-- frames that are back in their places are as good as before
pub lent_again : (f f' : LoadFrames) (n n' p p' : ℕ) → AreLoadFrames f n p → SameLoadFrames f f' → n' ≡ n → p' ≡ p → AreLoadFrames f' n' p'
lent_again f f' n n' p p' are same count len = record {
  runs = omega (arith, are.runs, same.runs.frames);
  table = omega (arith, are.table, same.table);
  outs = omega (arith, are.outs, same.outs.frames, count);
  text = still_text f.text f'.text same.text are.text;
  runs_len = same.runs.frame_len ∙ are.runs_len ∙ sym len;
  outs_len = same.outs.frame_len ∙ are.outs_len ∙ sym len;
  vertex = same.vertex.room ∙ are.vertex ∙ ap room_of (sym len);
  body = ap (λ (k : ℕ). 13 + k) same.body.limit ∙ are.body ∙ ap room_of (sym len);
}

mod CatchLaws

mod LieLaws
